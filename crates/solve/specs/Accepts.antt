-- That tables are those of an accepted file does not hang on bytes, annotations and root.
use Rattle.std.specs.Prelude.{◌≡◌, refl, List, [], ℕ}
use Rattle.std.proofs.Common.{sym, subst}
use mathlib.Core.List.{Memᴰ as In}
use Rattle.layout.specs.Table.{Node, Empty, Break, HardLine, Text, Seq, Fill, Group, Align, Nest, Choice, Annotate, Penalty}
use Rattle.layout.specs.References.{refers, RightList, two, more}
use Rattle.file_tables.specs.Tables.{Tables}
use Rattle.machine.specs.Model.{Prepared}
use Rattle.machine_right.specs.Ready.{Ready}
use Rattle.solve_workspace.specs.Rows.{Row}
use Rattle.solve_workspace.specs.Reading.{prepared, tables}
use Rattle.solve.specs.Accepted.{Accepted}

module _ (N : List Row) (E C : List ℕ) (X : List Row) (space : ℕ) where
  abbrev with_others : List ℕ → ℕ → ℕ → Prepared
  with_others bytes annotations root = prepared (tables N E C X bytes annotations root space)

  module _ (B B' : List ℕ) (a a' r r' : ℕ) where
    refers_same : (v : Node) → refers (with_others B a r).table v ≡ refers (with_others B' a' r').table v
    refers_same Empty = refl
    refers_same Break = refl
    refers_same HardLine = refl
    refers_same (Text t) = refl
    refers_same (Seq ks) = refl
    refers_same (Fill ks) = refl
    refers_same (Group k) = refl
    refers_same (Align k) = refl
    refers_same (Nest n k) = refl
    refers_same (Choice p q) = refl
    refers_same (Annotate n k) = refl
    refers_same (Penalty n k) = refl

    list_same : (p q : ℕ) {n : ℕ} {l : List ℕ} → RightList (with_others B a r).table p q n l → RightList (with_others B' a' r').table p q n l
    list_same p q two = two
    list_same p q (more m x y before after e h) = more m x y before after e (list_same p q h)

    ready_same : Ready (with_others B a r) → Ready (with_others B' a' r')
    ready_same K = record {
      ranked = record {
        rank = K.ranked.rank;
        falls = λ n k i. K.ranked.falls n k (subst (λ (z : List ℕ). In k z) (sym (refers_same ((with_others B a r).table.node n))) i);
      };
      deep = K.deep;
      lists = λ n p q l e f. list_same p q (K.lists n p q l e f);
      space_is = refl;
      space_wide = K.space_wide;
    }

  pub ready : Accepted N E C X space → (bytes : List ℕ) (annotations root : ℕ) → Ready (prepared (tables N E C X bytes annotations root space))
  ready h bytes annotations root = ready_same [] bytes 0 annotations 0 root h.ready

-- what the reader of files proves is enough
pub accepts : (t : Tables) → Ready (prepared t) → Accepted t.nodes t.edges t.choices t.texts t.space
accepts t K = record { ready = ready_same t.nodes t.edges t.choices t.texts t.space t.bytes [] t.annotations 0 t.root 0 K }
