-- Which function an operation is.
use Rattle.kq_plan_expressions.specs.declared.operation.Operation.{Operation}
use Rattle.kq_plan_expressions.specs.declared.operation.Operation.TheVariants as operation
use Rattle.kq_plan_functions.specs.declared.function.Function.{Function}
use Rattle.kq_plan_functions.specs.declared.function.Function.TheVariants as f

abbrev pub function_of : Operation → Function
function_of operation.Or = f.Or
function_of operation.And = f.And
function_of operation.Add = f.Add
function_of operation.Subtract = f.Subtract
function_of operation.Multiply = f.Multiply
function_of operation.Divide = f.Divide
function_of operation.Remainder = f.Remainder
function_of operation.Member = f.Member
