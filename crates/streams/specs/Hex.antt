-- A number in hexadecimal digits.
use Rattle.std.specs.Prelude.{ℕ, ◌-◌, List, ◌++◌, length, false, replicate}
use Rattle.std.specs.Fmt.{digits}

-- n in lower case, with zeros in front up to `width` digits
unfoldable pub hex : ℕ → ℕ → List ℕ
hex width n = replicate (width - length (digits 16 false n)) 48 ++ digits 16 false n
