use mathlib.Core.Path.{refl, sym, ◌∙◌}
use Prim.Native.Nat.{◌-◌}
use native.Mathlib.Omega.{arith}
use lib.ListN.{get_or}
use Rattle.plan.specs.declared.PlanNode.TheVariants.{Text}
use Rattle.materialize.proofs.Turns.{popped_exit, popped_plan, turned_by, depth_pos, below, fine_at, exit_turned, empty_turned, text_turned, newline_turned, concat_turned, annotate_turned, penalty_turned}
use Rattle.materialize.proofs.Untested.{goes}
use Rattle.materialize.proofs.visit_item.Goals as goal

pub overflow_sub-z : goal.overflow_sub-z
overflow_sub-z c = omega (arith, depth_pos (popped_exit c.requires.0 c.if-item-eq0.true c.requires.1))

pub returns-then-item-eq0 : goal.returns-then-item-eq0
returns-then-item-eq0 c =
    let a = c.args in
    let P = a.plans.now in
    let X = a.texts.now in
    let e = a.visit.now in
    let t = a.w.top - 1 in
    let p = popped_exit c.requires.0 c.if-item-eq0.true c.requires.1 in
    λ o bytes ib. exit_turned a.capacity o P X bytes e a.w t p

pub overflow_cast-id : goal.overflow_cast-id
overflow_cast-id c = omega (arith, below (popped_plan c.requires.0 c.if-item-eq0.false c.requires.1), c.requires.0.few)

pub plan_node-node-requires : goal.plan_node-node-requires
plan_node-node-requires c = below (popped_plan c.requires.0 c.if-item-eq0.false c.requires.1)

pub returns-in-Empty : goal.returns-in-Empty
returns-in-Empty c =
    let a = c.args in
    let P = a.plans.now in
    let X = a.texts.now in
    let e = a.visit.now in
    let t = a.w.top - 1 in
    let i = get_or e t 0 - 1 in
    let p = popped_plan c.requires.0 c.if-item-eq0.false c.requires.1 in
    λ o bytes ib. empty_turned a.capacity o P X bytes e a.w t i p (sym c.plan_node-node.ensures ∙ c.in-Empty.is)

pub visit_text-requires : goal.visit_text-requires
visit_text-requires c =
    let a = c.args in
    let P = a.plans.now in
    let X = a.texts.now in
    let e = a.visit.now in
    let t = a.w.top - 1 in
    let i = get_or e t 0 - 1 in
    let p = popped_plan c.requires.0 c.if-item-eq0.false c.requires.1 in
    let q = sym c.plan_node-node.ensures ∙ c.in-Text.is in
    (fine_at p (Text c.in-Text.text) q, c.requires.0.sound.at_le, c.requires.0.small, λ f. let h = c.requires.2 f in goes h _ _ (text_turned a.capacity h.around P X h.bytes e a.w t i p h.inside _ q))

pub returns-in-Text : goal.returns-in-Text
returns-in-Text c =
    let a = c.args in
    let P = a.plans.now in
    let X = a.texts.now in
    let e = a.visit.now in
    let t = a.w.top - 1 in
    let i = get_or e t 0 - 1 in
    let p = popped_plan c.requires.0 c.if-item-eq0.false c.requires.1 in
    let q = sym c.plan_node-node.ensures ∙ c.in-Text.is in
    λ o bytes ib. turned_by a.capacity o P X bytes e a.w refl c.visit_text.ensures (text_turned a.capacity o P X bytes e a.w t i p ib _ q)

pub visit_newline-requires : goal.visit_newline-requires
visit_newline-requires c =
    let a = c.args in
    let P = a.plans.now in
    let X = a.texts.now in
    let e = a.visit.now in
    let t = a.w.top - 1 in
    let i = get_or e t 0 - 1 in
    let p = popped_plan c.requires.0 c.if-item-eq0.false c.requires.1 in
    let q = sym c.plan_node-node.ensures ∙ c.in-Newline.is in
    (c.requires.0.sound.at_le, c.requires.0.small, λ f. let h = c.requires.2 f in goes h _ _ (newline_turned a.capacity h.around P X h.bytes e a.w t i p _ q))

pub returns-in-Newline : goal.returns-in-Newline
returns-in-Newline c =
    let a = c.args in
    let P = a.plans.now in
    let X = a.texts.now in
    let e = a.visit.now in
    let t = a.w.top - 1 in
    let i = get_or e t 0 - 1 in
    let p = popped_plan c.requires.0 c.if-item-eq0.false c.requires.1 in
    let q = sym c.plan_node-node.ensures ∙ c.in-Newline.is in
    λ o bytes ib. turned_by a.capacity o P X bytes e a.w refl c.visit_newline.ensures (newline_turned a.capacity o P X bytes e a.w t i p _ q)

pub visit_concat-requires : goal.visit_concat-requires
visit_concat-requires c =
    let a = c.args in
    let P = a.plans.now in
    let X = a.texts.now in
    let e = a.visit.now in
    let t = a.w.top - 1 in
    let i = get_or e t 0 - 1 in
    let p = popped_plan c.requires.0 c.if-item-eq0.false c.requires.1 in
    let q = sym c.plan_node-node.ensures ∙ c.in-Concat.is in
    (omega (arith, c.requires.0.sound.top_le), c.requires.0.visit_lent, c.requires.0.small, λ f. let h = c.requires.2 f in goes h _ _ (concat_turned a.capacity h.around P X h.bytes e a.w t i p _ _ q))

pub returns-in-Concat : goal.returns-in-Concat
returns-in-Concat c =
    let a = c.args in
    let P = a.plans.now in
    let X = a.texts.now in
    let e = a.visit.now in
    let t = a.w.top - 1 in
    let i = get_or e t 0 - 1 in
    let p = popped_plan c.requires.0 c.if-item-eq0.false c.requires.1 in
    let q = sym c.plan_node-node.ensures ∙ c.in-Concat.is in
    λ o bytes ib. turned_by a.capacity o P X bytes e a.w c.visit_concat.ensures.1 c.visit_concat.ensures.0 (concat_turned a.capacity o P X bytes e a.w t i p _ _ q)

pub visit_annotate-requires : goal.visit_annotate-requires
visit_annotate-requires c =
    let a = c.args in
    let P = a.plans.now in
    let X = a.texts.now in
    let e = a.visit.now in
    let t = a.w.top - 1 in
    let i = get_or e t 0 - 1 in
    let p = popped_plan c.requires.0 c.if-item-eq0.false c.requires.1 in
    let q = sym c.plan_node-node.ensures ∙ c.in-Annotate.is in
    (omega (arith, c.requires.0.sound.top_le), c.requires.0.sound.spans_le, c.requires.0.sound.depth_le, c.requires.0.visit_lent, c.requires.0.small, λ f. let h = c.requires.2 f in goes h _ _ (annotate_turned a.capacity h.around P X h.bytes e a.w t i p _ _ q))

pub returns-in-Annotate : goal.returns-in-Annotate
returns-in-Annotate c =
    let a = c.args in
    let P = a.plans.now in
    let X = a.texts.now in
    let e = a.visit.now in
    let t = a.w.top - 1 in
    let i = get_or e t 0 - 1 in
    let p = popped_plan c.requires.0 c.if-item-eq0.false c.requires.1 in
    let q = sym c.plan_node-node.ensures ∙ c.in-Annotate.is in
    λ o bytes ib. turned_by a.capacity o P X bytes e a.w c.visit_annotate.ensures.1 c.visit_annotate.ensures.0 (annotate_turned a.capacity o P X bytes e a.w t i p _ _ q)

pub returns-in-Penalty : goal.returns-in-Penalty
returns-in-Penalty c =
    let a = c.args in
    let P = a.plans.now in
    let X = a.texts.now in
    let e = a.visit.now in
    let t = a.w.top - 1 in
    let i = get_or e t 0 - 1 in
    let p = popped_plan c.requires.0 c.if-item-eq0.false c.requires.1 in
    let q = sym c.plan_node-node.ensures ∙ c.in-Penalty.is in
    λ o bytes ib. turned_by a.capacity o P X bytes e a.w c.visit_penalty.ensures.1 c.visit_penalty.ensures.0 (penalty_turned a.capacity o P X bytes e a.w t i p _ _ q)
