-- The end of the loop over a text: it is well-formed if nothing more is wanted.
use mathlib.Core.Path.{◌≡◌, ap, ◌∙◌, subst}
use mathlib.Core.Bool.{Bool, true}
use mathlib.Core.Logic.{◌↔◌}
use mathlib.Core.List.{List}
use Prim.Native.Nat.{ℕ, ◌≤◌}
use lib.ListN.{length, drop_of_length-le}
use Rattle.file_utf8.specs.Told.{Told}
use Rattle.file_utf8.specs.Tells.{tell_iff}
use Rattle.file_utf8.specs.declared.Wanted.{Wanted}
use Rattle.file_utf8.specs.Utf8.{Utf8}
use Rattle.file_utf8.specs.Bytewise.{well}
use Rattle.file_utf8.proofs.Rows.{utf8_well}
use Rattle.file_utf8.specs.Follows.{wants}
use Rattle.file_utf8.proofs.Laws.{So, full, at_end}

pub so_end : (text : List ℕ) (w : Wanted) (k : ℕ) → So text w k → length text ≤ k → Told (Utf8 text) (full w.left)
so_end text w k i h =
    let e : well text ≡ full w.left = i.same ∙ (ap (wants w) (drop_of_length-le text h) ∙ at_end w.left w.low w.high) in
    tell_iff (full w.left) (subst (λ (b : Bool). Utf8 text ↔ (b ≡ true)) e (utf8_well text))
