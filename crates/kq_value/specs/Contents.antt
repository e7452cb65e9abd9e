-- The bytes of a text that copies share, wherever they lie.
use Rattle.std.specs.Prelude.{ℕ, List, string_bytes}
use Rattle.kq_value.specs.declared.content.Content.{Content}
use Rattle.kq_value.specs.declared.content.Content.TheVariants.{Short, Long}

abbrev pub bytes_of : Content → List ℕ
bytes_of (Short bs) = bs
bytes_of (Long s) = string_bytes s
