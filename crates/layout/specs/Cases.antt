-- Worked cases over the definitions, by computation: layouts and frontiers that tell readings apart. Document 01's starred cases are in crate answer, Starred.
use Rattle.std.specs.Prelude.{◌≡◌, refl, List, [], ◌∷◌, map, ℕ, zero, suc}
use Rattle.std.proofs.Math.Option
use Rattle.std.proofs.Math.Option.{Option, none, some}
use Rattle.cost.specs.Cost.{cheap, cheaper}
use Rattle.cost.specs.Charge.{charged}
use Rattle.layout.specs.Document.{Word}
use Rattle.layout.specs.Rules.{Rules, charging}
use Rattle.layout.specs.Layout.{Plan, blank, page, overflow_of, burden_of}
use Rattle.layout.specs.Spans.{Span, spans}
use Rattle.layout.specs.Choice.{layouts, chosen}
use Rattle.layout.specs.Table.{Node, Table, Empty, Break, HardLine, Text, Seq, Fill, Group, Align, Nest, Choice, Annotate, Penalty}
use Rattle.layout.specs.References.{RightList, two, more}
use Rattle.layout.specs.Frontier.{present, load, build, Cand, covers}
use Rattle.layout.specs.Reading.{unfolded}

abbrev nth : {A : Type 0} → A → List A → ℕ → A
nth d [] n = d
nth d (x ∷ l) zero = x
nth d (x ∷ l) (suc n) = nth d l n

-- a node that has no flat node, and one that has
abbrev Row : Type 0
Row = Node × Option ℕ

abbrev plain : Node → Row
plain v = (v, none)

abbrev with_flat : ℕ → Node → Row
with_flat f v = (v, some f)

-- texts: 0 the space, 1 `a`, 2 `b`, 3 `c`, 4 `ab`, 5 `cd`, 6 `abc`, 7 `abcd`
abbrev word : ℕ → List ℕ → Word
word w b = record { width = w; bytes = b }

abbrev words : List Word
words = word 1 (32 ∷ []) ∷ word 1 (97 ∷ []) ∷ word 1 (98 ∷ []) ∷ word 1 (99 ∷ []) ∷ word 2 (97 ∷ 98 ∷ []) ∷ word 2 (99 ∷ 100 ∷ []) ∷ word 3 (97 ∷ 98 ∷ 99 ∷ []) ∷ word 4 (97 ∷ 98 ∷ 99 ∷ 100 ∷ []) ∷ []

abbrev table : List Row → Table
table l = record { node = λ n. (nth (plain Empty) l n).0; flat = λ n. (nth (plain Empty) l n).1; texts = nth (word 0 []) words; space = word 1 (32 ∷ []) }

-- cost rule, page width, newline cost, policy, and nodes: 0 is the root
pub record Case : Type 0 where
  pub rules : Rules
  pub rows : List Row

abbrev under : ℕ → ℕ → ℕ → ℕ → List Row → Case
under r w n p l = record { rules = charging r w n p; rows = l }

-- rule 1
abbrev at : ℕ → ℕ → ℕ → List Row → Case
at = under 1

-- the answer's overflow, burden and page
abbrev Shown : Type 0
Shown = ℕ × ℕ × List ℕ

abbrev shown : Rules → Plan → Shown
shown R p = (overflow_of R p, burden_of R p, page p)

abbrev plan : Case → Option Plan
plan k = chosen k.rules (unfolded (table k.rows) 8 0)

abbrev answer : Case → Option Shown
answer k = Option.map (shown k.rules) (plan k)

abbrev one_text : ℕ → List Row
one_text t = plain (Text t) ∷ []

-- Group of `ab` Break `cd` without a flat node
abbrev group_broken : List Row
group_broken = plain (Group 1) ∷ plain (Seq (2 ∷ 4 ∷ 3 ∷ [])) ∷ plain (Text 4) ∷ plain (Text 5) ∷ plain Break ∷ []

-- Fill of `a`, `b`, `c`
abbrev fill_three : List Row
fill_three = plain (Fill (1 ∷ 2 ∷ 3 ∷ [])) ∷ plain (Text 1) ∷ plain (Text 2) ∷ plain (Text 3) ∷ []

-- a node in a Nest within Nest 1; a HardLine aligned after `ab`
abbrev twice : ℕ → Node → List Row
twice n v = plain (Nest 1 1) ∷ plain (Nest n 2) ∷ plain v ∷ []

abbrev aligned : List Row
aligned = plain (Seq (1 ∷ 2 ∷ [])) ∷ plain (Text 4) ∷ plain (Align 3) ∷ plain HardLine ∷ []

-- `a`, a gap, `b`, the same gap, `c`: the gap is a Group of Break with a space as flat node
abbrev shared : List Row
shared = plain (Seq (1 ∷ 2 ∷ 3 ∷ 2 ∷ 4 ∷ [])) ∷ plain (Text 1) ∷ plain (Group 5) ∷ plain (Text 2) ∷ plain (Text 3) ∷ with_flat 6 Break ∷ plain (Text 0) ∷ []

-- two ways at the same cost, `abc` preferred although `c` ends further left; and the preferred one at a penalty
abbrev either : List Row
either = plain (Choice 1 2) ∷ plain (Text 6) ∷ plain (Text 3) ∷ []

abbrev fined : List Row
fined = plain (Choice 1 2) ∷ plain (Penalty 5 3) ∷ plain (Text 3) ∷ plain (Text 6) ∷ []

-- `abcd`, or `abc` on two lines
abbrev one_or_two : List Row
one_or_two = plain (Choice 1 2) ∷ plain (Text 7) ∷ plain (Seq (3 ∷ 4 ∷ 3 ∷ [])) ∷ plain (Text 6) ∷ plain HardLine ∷ []

-- one table: the case, and its answer
abbrev cases : List (Case × Shown)
cases = (at 1 1 0 (one_text 6), (4, 0, 97 ∷ 98 ∷ 99 ∷ []))
    ∷ (under 2 1 1 0 (one_text 6), (2, 0, 97 ∷ 98 ∷ 99 ∷ []))
    ∷ (at 1 0 0 one_or_two, (8, 0, 97 ∷ 98 ∷ 99 ∷ 10 ∷ 97 ∷ 98 ∷ 99 ∷ []))
    ∷ (under 2 1 0 0 one_or_two, (3, 0, 97 ∷ 98 ∷ 99 ∷ 100 ∷ []))
    ∷ (at 5 1 0 group_broken, (0, 1, 97 ∷ 98 ∷ 10 ∷ 99 ∷ 100 ∷ []))
    ∷ (at 3 0 0 fill_three, (0, 0, 97 ∷ 32 ∷ 98 ∷ 10 ∷ 99 ∷ []))
    ∷ (at 80 1 1 (twice 4294967295 Empty), (0, 0, []))
    ∷ (at 2 0 0 (twice 2 HardLine), (1, 0, 10 ∷ 32 ∷ 32 ∷ 32 ∷ []))
    ∷ (at 2 0 1 (twice 2 HardLine), (0, 0, 10 ∷ 32 ∷ []))
    ∷ (at 2 0 0 aligned, (0, 0, 97 ∷ 98 ∷ 10 ∷ 32 ∷ 32 ∷ []))
    ∷ (at 2 0 1 aligned, (0, 0, 97 ∷ 98 ∷ 10 ∷ 32 ∷ []))
    ∷ (at 3 1 0 shared, (0, 1, 97 ∷ 32 ∷ 98 ∷ 10 ∷ 99 ∷ []))
    ∷ (at 3 1 0 either, (0, 0, 97 ∷ 98 ∷ 99 ∷ []))
    ∷ (at 3 1 0 fined, (0, 0, 99 ∷ []))
    ∷ (at 3 1 0 (plain (Seq []) ∷ []), (0, 0, []))
    ∷ (at 3 1 0 (plain (Fill []) ∷ []), (0, 0, []))
    ∷ []

all_cases : map (λ k. answer k.0) cases ≡ map (λ k. some k.1) cases
unfolding cheap cheaper charged layouts
all_cases = refl

-- the layouts of a Fill in choice order: `a b c`, `a b/c`, `a/b c`, `a/b/c`
fill_layouts : map page (layouts (charging 1 3 0 0) (unfolded (table fill_three) 2 0) 0 0)
    ≡ (97 ∷ 32 ∷ 98 ∷ 32 ∷ 99 ∷ []) ∷ (97 ∷ 32 ∷ 98 ∷ 10 ∷ 99 ∷ []) ∷ (97 ∷ 10 ∷ 98 ∷ 32 ∷ 99 ∷ []) ∷ (97 ∷ 10 ∷ 98 ∷ 10 ∷ 99 ∷ []) ∷ []
unfolding layouts
fill_layouts = refl

-- Annotate 7 around Annotate 9 of `a`, Annotate 8 of `ab`, and the first of these again
abbrev annotated : List Row
annotated = plain (Annotate 7 1) ∷ plain (Seq (2 ∷ 3 ∷ 2 ∷ [])) ∷ plain (Annotate 9 4) ∷ plain (Annotate 8 5) ∷ plain (Text 1) ∷ plain (Text 4) ∷ []

abbrev span : ℕ → ℕ → ℕ → Option ℕ → Span
span a s e p = record { annotation = a; start = s; end = e; parent = p }

annotated_spans : Option.map spans (plan (at 80 1 0 annotated)) ≡ some (span 7 0 4 none ∷ span 9 0 1 (some 0) ∷ span 8 1 3 (some 0) ∷ span 9 3 4 (some 0) ∷ [])
unfolding cheap cheaper charged layouts
annotated_spans = refl

-- candidates by overflow, burden and column
abbrev k : ℕ → ℕ → ℕ → Cand Plan
k o b c = record { cost = record { overflow = o; burden = b }; column = c; plan = blank }

-- an equal cost at a larger column is kept
equal_kept : build covers (k 0 5 3 ∷ k 0 5 7 ∷ []) ≡ k 0 5 3 ∷ k 0 5 7 ∷ []
unfolding build load present covers cheap cheaper
equal_kept = refl

-- Choice of `a` and a Choice of `b` and `c`: its list of three, one Choice skipped, is right
abbrev chosen_list : List Row
chosen_list = plain (Choice 1 2) ∷ plain (Text 1) ∷ plain (Choice 3 4) ∷ plain (Text 2) ∷ plain (Text 3) ∷ []

three_right : RightList (table chosen_list) 1 2 1 (1 ∷ 3 ∷ 4 ∷ [])
three_right = more 2 3 4 (1 ∷ []) [] refl two
