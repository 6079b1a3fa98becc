-- Further left is never dearer: what a document allows at a column and an indent it allows further left too, ending no further right, at no more overflow and the same burden.
use Rattle.std.specs.Prelude.{◌≡◌, refl, ℕ, ◌+◌, ◌≤◌}
use Rattle.std.proofs.Common.{arith}
use Rattle.cost.specs.Rising.{rises, steeper}
use Rattle.layout.specs.Document.{Doc}
use Rattle.layout.specs.Rules.{Rules}
use Rattle.layout.specs.Lawful.{Lawful}
use Rattle.layout.specs.Layout.{Plan, blank, put, line, join, mark, fee, last}
use Rattle.layout.specs.Layout.{Allows, is_empty, is_text, is_newline, is_cat, is_nest, is_align, is_first, is_second, is_annotate, is_penalty}
use Rattle.layout.specs.Running.{cost_from}

-- a layout of d at c₀ and i₀ that does no worse than p at c
pub record Lefter (R : Rules) (d : Doc) (c₀ i₀ c : ℕ) (p : Plan) : Type 0 where
  pub plan : Plan
  pub allowed : Allows R d c₀ i₀ plan
  pub ends : last plan c₀ ≤ last p c
  pub overflow_le : (cost_from R plan c₀).overflow ≤ (cost_from R p c).overflow
  pub burden_same : (cost_from R plan c₀).burden ≡ (cost_from R p c).burden

module _ (R : Rules) (L : Lawful R) where
  pub left : {d : Doc} {c i : ℕ} {p : Plan} → Allows R d c i p → (c₀ i₀ : ℕ) → c₀ ≤ c → i₀ ≤ i → Lefter R d c₀ i₀ c p
  left is_empty c₀ i₀ h k = record { plan = blank; allowed = is_empty; ends = h; overflow_le = omega arith; burden_same = refl }
  left (is_text {c} {i} {t}) c₀ i₀ h k = record {
    plan = put t;
    allowed = is_text;
    ends = omega arith;
    overflow_le = omega (arith, steeper L.rising c₀ c t.width h, rises L.rising c₀ (c₀ + t.width) (omega arith));
    burden_same = refl;
  }
  left (is_newline {c} {i}) c₀ i₀ h k = record { plan = line i₀; allowed = is_newline; ends = k; overflow_le = rises L.rising i₀ i k; burden_same = refl }
  left (is_cat {c} {i} {a} {b} {p} {q} m n) c₀ i₀ h k =
      let r = left m c₀ i₀ h k in
      let s = left n (last r.plan c₀) i₀ r.ends k in
      record {
        plan = join r.plan s.plan;
        allowed = is_cat r.allowed s.allowed;
        ends = s.ends;
        overflow_le = omega (arith, r.overflow_le, s.overflow_le);
        burden_same = omega (arith, r.burden_same, s.burden_same);
      }
  left (is_nest {c} {i} {n} m) c₀ i₀ h k =
      let r = left m c₀ (R.lower (i₀ + n)) h (L.lowers (i₀ + n) (i + n) (omega arith)) in
      record { plan = r.plan; allowed = is_nest r.allowed; ends = r.ends; overflow_le = r.overflow_le; burden_same = r.burden_same }
  left (is_align {c} {i} m) c₀ i₀ h k =
      let r = left m c₀ (R.lower c₀) h (L.lowers c₀ c h) in
      record { plan = r.plan; allowed = is_align r.allowed; ends = r.ends; overflow_le = r.overflow_le; burden_same = r.burden_same }
  left (is_first m) c₀ i₀ h k =
      let r = left m c₀ i₀ h k in
      record { plan = r.plan; allowed = is_first r.allowed; ends = r.ends; overflow_le = r.overflow_le; burden_same = r.burden_same }
  left (is_second m) c₀ i₀ h k =
      let r = left m c₀ i₀ h k in
      record { plan = r.plan; allowed = is_second r.allowed; ends = r.ends; overflow_le = r.overflow_le; burden_same = r.burden_same }
  left (is_annotate {k = a} m) c₀ i₀ h k =
      let r = left m c₀ i₀ h k in
      record { plan = mark a r.plan; allowed = is_annotate r.allowed; ends = r.ends; overflow_le = r.overflow_le; burden_same = r.burden_same }
  left (is_penalty {n = n} m) c₀ i₀ h k =
      let r = left m c₀ i₀ h k in
      record { plan = fee n r.plan; allowed = is_penalty r.allowed; ends = r.ends; overflow_le = omega (arith, r.overflow_le); burden_same = omega (arith, r.burden_same) }
