-- A worked arena: a text, a newline to indent 2, then both, marked and charged.
use mathlib.Core.Path.{◌≡◌, refl}
use mathlib.Core.List.{List, [], ◌∷◌}
use Prim.Native.Nat.{ℕ}
use Rattle.layout.specs.Document.{Word}
use Rattle.layout.specs.Layout.{put, line, join, mark, fee}
use Rattle.plan.specs.declared.PlanNode.TheVariants.{Text, Newline, Concat, Annotate, Penalty}
use Rattle.plan.specs.Arena.{arena}
use Rattle.plan.specs.Layouts.{read_layouts_after, layouts, layout_at}

-- rows as they stand in memory: first, second, kind
abbrev rows : List (List ℕ)
rows = (7 ∷ 0 ∷ 1 ∷ []) ∷ (2 ∷ 0 ∷ 2 ∷ []) ∷ (0 ∷ 1 ∷ 3 ∷ []) ∷ (9 ∷ 2 ∷ 4 ∷ []) ∷ (30 ∷ 3 ∷ 5 ∷ []) ∷ []

pub read : arena rows 5
    ≡ Text (record { 0 = 7 }) ∷ Newline 2 ∷ Concat (record { 0 = 0 }) (record { 0 = 1 }) ∷ Annotate (record { 0 = 9 }) (record { 0 = 2 }) ∷ Penalty 30 (record { 0 = 3 }) ∷ []
unfolding arena
read = refl

pub unfolded : (texts : ℕ → Word) → layout_at texts (arena rows 5) 4 ≡ fee 30 (mark 9 (join (put (texts 7)) (line 2)))
unfolding arena layouts read_layouts_after
unfolded texts = refl
