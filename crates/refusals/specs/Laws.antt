-- Each refusal has a number of its own, and none has 0.
use Rattle.std.specs.Prelude.{◌≡◌, refl, ℕ, [], ◌∷◌, get_or}
use Rattle.std.proofs.Common.{sym, ap, ◌∙◌, arith}
use Rattle.refusals.specs.declared.Refusal.{Refusal}
use Rattle.refusals.specs.declared.Refusal.TheVariants.{Order, Short, Form, Limit, Surplus, Reference, Text, Space, Circle, List, Column, Work, Stack, Memo, Kept, Frontier, Plans, Visit, Depth, Output, Spans, Visits, Place, Rows, Indent, Cost, Desk, Documents}
use Rattle.refusals.specs.Numbers.{number_of}

-- the refusal of a number, by place (0 and 27 are no refusal's)
named : ℕ → Refusal
named n = get_or (Order ∷ Order ∷ Short ∷ Form ∷ Limit ∷ Surplus ∷ Reference ∷ Text ∷ Space ∷ Circle ∷ List ∷ Column ∷ Work ∷ Stack ∷ Memo ∷ Kept ∷ Frontier ∷ Plans ∷ Visit ∷ Depth ∷ Output ∷ Spans ∷ Visits ∷ Place ∷ Rows ∷ Indent ∷ Cost ∷ Order ∷ Desk ∷ Documents ∷ []) n Order

named_number : (r : Refusal) → named (number_of r) ≡ r
unfolding named
named_number Order = refl
named_number Short = refl
named_number Form = refl
named_number Limit = refl
named_number Surplus = refl
named_number Reference = refl
named_number Text = refl
named_number Space = refl
named_number Circle = refl
named_number List = refl
named_number Column = refl
named_number Work = refl
named_number Stack = refl
named_number Memo = refl
named_number Kept = refl
named_number Frontier = refl
named_number Plans = refl
named_number Visit = refl
named_number Depth = refl
named_number Output = refl
named_number Spans = refl
named_number Visits = refl
named_number Place = refl
named_number Rows = refl
named_number Indent = refl
named_number Cost = refl
named_number Desk = refl
named_number Documents = refl

pub number_one : (a b : Refusal) → number_of a ≡ number_of b → a ≡ b
number_one a b e = sym (named_number a) ∙ ap named e ∙ named_number b

pub number_some : (r : Refusal) → number_of r ≡ 0 → ⊥
unfolding named
number_some r e = let q : Order ≡ r = sym (ap named e) ∙ named_number r in let z = ap number_of q in omega arith
