-- Answers told from tests.
use Rattle.std.specs.Prelude.{◌≡◌, refl, ◌↔◌, Bool, true, false, ℕ, ◌≤◌, ◌<◌, ltb, leb, eqb}
use Rattle.std.proofs.Common.{sym, ◌∙◌, true≢false, arith, ltb-true, ltb-false, leb-true, leb-false, eqb-true}
use Rattle.std.proofs.lemmas.Bool.{false≢true, eqb-false}
use Rattle.file_utf8.specs.Told.{Told}

pub tell_yes : {P : Type 0} → P → Told P true
tell_yes p = record { yes = λ _. p; no = λ f. absurd (true≢false f) }

pub tell_no : {P : Type 0} → (P → ⊥) → Told P false
tell_no h = record { yes = λ f. absurd (false≢true f); no = λ _. h }

-- what an equal claim tells
pub tell_same : {P Q : Type 0} {b : Bool} → (P → Q) → (Q → P) → Told P b → Told Q b
tell_same f g t = record { yes = λ e. f (t.yes e); no = λ e q. t.no e (g q) }

pub tell_lt : {P : Type 0} (a b : ℕ) → (a < b → P) → (P → a < b) → Told P (ltb a b)
tell_lt a b f g = record { yes = λ e. f (ltb-true a b e); no = λ e p. let h = g p in omega (arith, ltb-false a b e) }

pub tell_le : {P : Type 0} (a b : ℕ) → (a ≤ b → P) → (P → a ≤ b) → Told P (leb a b)
tell_le a b f g = record { yes = λ e. f (leb-true a b e); no = λ e p. let h = g p in omega (arith, leb-false a b e) }

pub tell_eq : {P : Type 0} (a b : ℕ) → (a ≡ b → P) → (P → a ≡ b) → Told P (eqb a b)
tell_eq a b f g = record { yes = λ e. f (eqb-true a b e); no = λ e p. eqb-false a b e (g p) }

-- a test that is the claim
pub tell_iff : {P : Type 0} (b : Bool) → P ↔ (b ≡ true) → Told P b
tell_iff b t = record { yes = t.1; no = λ e p. false≢true (sym e ∙ t.0 p) }

pub told_dec : {P : Type 0} (b : Bool) → Told P b → Dec P
told_dec true t = yes (t.yes refl)
told_dec false t = no (t.no refl)
