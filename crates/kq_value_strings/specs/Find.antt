-- What each kind of search finds.
use Rattle.std.specs.Prelude.{ℕ, Bool, List}
use Rattle.kq_value_formats.specs.Strings.{has_cs, contains_cs, startswith_cs, endswith_cs, without_case}
use Rattle.kq_value_strings.specs.declared.find.FindKind.{FindKind}
use Rattle.kq_value_strings.specs.declared.find.FindKind.TheVariants.{Has, HasCs, Contains, ContainsCs, StartsWith, StartsWithCs, EndsWith, EndsWithCs}

abbrev pub finds : FindKind → List ℕ → List ℕ → Bool
finds Has = without_case has_cs
finds HasCs = has_cs
finds Contains = without_case contains_cs
finds ContainsCs = contains_cs
finds StartsWith = without_case startswith_cs
finds StartsWithCs = startswith_cs
finds EndsWith = without_case endswith_cs
finds EndsWithCs = endswith_cs
