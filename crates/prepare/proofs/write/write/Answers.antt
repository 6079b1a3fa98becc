use mathlib.Core.Path.{refl}
use native.Mathlib.Omega.{arith}
use lib.Seq.{length-take-le}
use Rattle.prepare.specs.Writing.{order}
use Rattle.prepare.proofs.Written.{writes_map}
use Rattle.prepare.proofs.write.write.Goals as goal
use Rattle.prepare.proofs.write.write.Goals.{then-nodes-a-via-then-nodes-a, then-nodes-a-via-else-nodes-a+then-edges-b, then-nodes-a-via-else-nodes-a+else-edges-b+then-choices-c, then-nodes-a-via-else-nodes-a+else-edges-b+else-choices-c+then-texts-d}

pub returns-then-nodes-a : goal.returns-then-nodes-a
returns-then-nodes-a c =
    rw c.into.ensures
    (order (λ l. elim c.then-nodes-a.branch [
      | then-nodes-a-via-then-nodes-a w ↦ omega (arith, l.nodes_lent)
      | then-nodes-a-via-else-nodes-a+then-edges-b w ↦ omega (arith, l.edges_lent)
      | then-nodes-a-via-else-nodes-a+else-edges-b+then-choices-c w ↦ omega (arith, l.choices_lent)
      | then-nodes-a-via-else-nodes-a+else-edges-b+else-choices-c+then-texts-d w ↦ omega (arith, l.texts_lent)
    ]) refl)

pub write_cut-requires : goal.write_cut-requires
write_cut-requires c =
    let a = c.args in
    record {
      nodes_cut = length-take-le a.n.nodes a.nodes.now c.if-nodes-a.false;
      edges_cut = length-take-le a.n.edges a.edges.now c.if-edges-b.false;
      choices_cut = length-take-le a.n.choices a.choices.now c.if-choices-c.false;
      texts_cut = length-take-le a.n.texts a.texts.now c.if-texts-d.false;
      texts_few = omega arith;
    }

pub returns : goal.returns
returns c = writes_map (λ b. record { nodes_lent = c.if-nodes-a.false; edges_lent = c.if-edges-b.false; choices_lent = c.if-choices-c.false; texts_lent = c.if-texts-d.false; bytes_lent = b }) (λ l. l.bytes_lent) c.write_cut.ensures
