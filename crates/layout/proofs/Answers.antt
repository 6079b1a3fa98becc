-- In a table without circle every root has exactly one answer, and it is the least and earliest candidate of the root's frontier.
use Rattle.std.specs.Prelude.{◌≡◌, ℕ}
use Rattle.std.proofs.Common.{sym, ap, ◌∙◌}
use Rattle.std.proofs.Math.Option.{some, some-injective}
use Rattle.layout.specs.Document.{Doc}
use Rattle.layout.specs.Rules.{Rules}
use Rattle.layout.specs.Lawful.{Lawful}
use Rattle.layout.specs.Layout.{Plan}
use Rattle.layout.specs.Choice.{price, chosen}
use Rattle.layout.specs.Table.{Table, Reads}
use Rattle.layout.specs.Cheapest.{FirstCheapest}
use Rattle.layout.specs.References.{Ranked}
use Rattle.layout.specs.Frontier.{Cand, front, least}
use Rattle.layout.proofs.First.{chosen_some, chosen_cheapest}
use Rattle.layout.proofs.Chosen.{answer_is}
use Rattle.layout.specs.Reading.{document, document_reads, reads_only}

module _ (R : Rules) (T : Table) where
  -- of any reading
  pub answer : (D : ℕ → Doc) → Reads T D → (root : ℕ) (p : Plan) → chosen R (D root) ≡ some p → FirstCheapest R T root p
  answer D d root p e = record { document = D; reads = d; first = e; cheapest = chosen_cheapest R (D root) p e }

  -- the frontier's answer is the rule's, and its cost is what its lines cost
  pub front_answer : Lawful R → (D : ℕ → Doc) → Reads T D → (root : ℕ) (x : Cand Plan) → least (front R (D root) 0 0) ≡ some x → FirstCheapest R T root x.plan × (x.cost ≡ price R x.plan)
  front_answer L D d root x e = let a = answer_is R L (D root) x e in (answer D d root x.plan a.plan_is, a.cost_is)

  module _ (K : Ranked T) where
    pub answers : (root : ℕ) → (p : Plan) × FirstCheapest R T root p
    answers root = let c = chosen_some R (document T K root) in (c.0, answer (document T K) (document_reads T K) root c.0 c.1)

    pub one_answer : (root : ℕ) (p q : Plan) → FirstCheapest R T root p → FirstCheapest R T root q → p ≡ q
    one_answer root p q a b = some-injective p q (sym a.first ∙ ap (chosen R) (reads_only T K a.document b.document a.reads b.reads root) ∙ b.first)
