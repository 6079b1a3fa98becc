-- What a hole `{:0width$x}` writes.
use Rattle.std.proofs.Common.{◌≡◌, ℕ, ◌-◌, List, [], ◌++◌, Option, Some, IfSome, Result, OnOk, false, length, replicate, subst, ap, ◌∙◌, arith, append-nil}
use Rattle.std.specs.Option.{option_map}
use Rattle.std.specs.Fmt.{digits, char_count, format_spec, padded_integral}
use Rattle.streams.specs.Hex.{hex}

padded_hex : (width n : ℕ) → padded_integral (format_spec 32 0 4 width 18446744073709551615) false [] (digits 16 false n) ≡ hex width n
unfolding padded_integral char_count hex
padded_hex width n =
    let len = length (digits 16 false n) in
    let same : width - len - 0 - 0 ≡ width - len = omega arith in
    ap (λ k. replicate k 48 ++ (digits 16 false n ++ [])) same ∙ ap (λ l. replicate (width - len) 48 ++ l) (append-nil (digits 16 false n))

pub styled_hex : {E : Type 0} (P : List ℕ → Type 0) (r : Result (Unit {0}) E) (o : Option (List ℕ)) (width n : ℕ) → o ≡ Some (digits 16 false n)
    → OnOk r (IfSome (option_map (padded_integral (format_spec 32 0 4 width 18446744073709551615) false []) o) P) → OnOk r (P (hex width n))
styled_hex {E} P r o width n is written =
    subst (λ l. OnOk r (P l)) (padded_hex width n) (subst (λ z. OnOk r (IfSome (option_map (padded_integral (format_spec 32 0 4 width 18446744073709551615) false []) z) P)) is written)
