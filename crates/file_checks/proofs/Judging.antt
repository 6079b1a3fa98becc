-- The refusals one after the other.
use Prim.Native.Nat.{ℕ}
use Rattle.file_tables.specs.Tables.{Tables}
use Rattle.file_checks.specs.References.{References}
use Rattle.file_checks.specs.Texts.{TextsOk, SpaceOk}
use Rattle.file_checks.specs.Search.{ListsInside, GraphJudged, circle as a_circle, list as a_list, right}
use Rattle.file_checks.specs.Judged.{Judged, circle, list, accepted}

pub lists_inside : (t : Tables) → References t → ListsInside t.nodes t.choices
lists_inside t r = record { inside = λ i h. (r.nodes.each i h).choice_range }

pub judged_graph :
    (t : Tables) (n : ℕ) → References t → TextsOk t.texts t.bytes → SpaceOk t.texts t.bytes t.space
    → GraphJudged t.nodes t.edges t.choices n → Judged t n
judged_graph t n r x s (a_circle c) = circle r x s c
judged_graph t n r x s (a_list nc nl) = list r x s nc nl
judged_graph t n r x s (right nc l) = accepted (record { references = r; texts = x; space = s; no_circle = nc; lists = l })
