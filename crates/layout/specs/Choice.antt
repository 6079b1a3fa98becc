-- The answer: all layouts that a document allows, in choice order, and the first of the cheapest of them. No frontier, no machine.
use Rattle.std.specs.Prelude.{cond, ℕ, ◌+◌}
use Rattle.std.proofs.Math.Option.{Option, none, some}
use mathlib.Core.List.{List, [], ◌∷◌, ◌++◌, map, foldl}
use Rattle.cost.specs.Cost.{Cost, cheaper}
use Rattle.layout.specs.Document.{Doc, empty, text, newline, cat, nest, align, choice, annotate, penalty}
use Rattle.layout.specs.Rules.{Rules}
use Rattle.layout.specs.Layout.{Plan, blank, put, line, join, mark, fee, last, overflow_of, burden_of}

-- what f has for each of the list, one after the other
abbrev pub each : {A B : Type 0} → (A → List B) → List A → List B
each f [] = []
each f (x ∷ l) = f x ++ each f l

-- all layouts from column c and indent i on, in choice order: the preferred before the alternative, the choice that stands further left first
unfoldable pub layouts : Rules → Doc → ℕ → ℕ → List Plan
layouts R empty c i = blank ∷ []
layouts R (text t) c i = put t ∷ []
layouts R newline c i = line i ∷ []
layouts R (cat a b) c i = each (λ p. map (join p) (layouts R b (last p c) i)) (layouts R a c i)
layouts R (nest n d) c i = layouts R d c (R.lower (i + n))
layouts R (align d) c i = layouts R d c (R.lower c)
layouts R (choice a b) c i = layouts R a c i ++ layouts R b c i
layouts R (annotate k d) c i = map (mark k) (layouts R d c i)
layouts R (penalty n d) c i = map (fee n) (layouts R d c i)

-- what a layout costs, taken from its page's lines
abbrev pub price : Rules → Plan → Cost
price R p = record { overflow = overflow_of R p; burden = burden_of R p }

-- the first of the cheapest: a later one only if it is strictly cheaper
abbrev pub first : Rules → List Plan → Option Plan
first R [] = none
first R (p ∷ l) = some (foldl (λ best q. cond (cheaper (price R q) (price R best)) q best) p l)

-- the answer; "start: root, column 0, indent 0"
abbrev pub chosen : Rules → Doc → Option Plan
chosen R d = first R (layouts R d 0 0)
