-- A sum on the same side changes neither the order of costs nor which candidate makes which superfluous.
use Rattle.std.specs.Prelude.{◌≡◌, refl, false, ℕ}
use Rattle.std.proofs.Common.{arith}
use Rattle.cost.specs.Cost.{Cost, add, cheap, cheaper}
use Rattle.cost.specs.Charge.{penalty_cost}
use Rattle.cost.specs.Logic.{no_both, same_test, false_if}
use Rattle.cost.specs.Order.{Cheap, cheap_is, is_cheap}
use Rattle.layout.specs.Layout.{Plan}
use Rattle.layout.specs.Frontier.{Cand, covers, after, marked, charged}

pub cheap_left : (c a b : Cost) → cheap (add c a) (add c b) ≡ cheap a b
cheap_left c a b = same_test (cheap (add c a) (add c b)) (cheap a b)
    (λ t. let h = cheap_is (add c a) (add c b) t in
    is_cheap a b (record { overflow_le = omega (arith, h.overflow_le); burden_le = λ e. omega (arith, h.burden_le (omega arith)) }))
    (λ t. let h = cheap_is a b t in
    is_cheap (add c a) (add c b) (record { overflow_le = omega (arith, h.overflow_le); burden_le = λ e. omega (arith, h.burden_le (omega arith)) }))

pub cheap_right : (c a b : Cost) → cheap (add a c) (add b c) ≡ cheap a b
cheap_right c a b = same_test (cheap (add a c) (add b c)) (cheap a b)
    (λ t. let h = cheap_is (add a c) (add b c) t in
    is_cheap a b (record { overflow_le = omega (arith, h.overflow_le); burden_le = λ e. omega (arith, h.burden_le (omega arith)) }))
    (λ t. let h = cheap_is a b t in
    is_cheap (add a c) (add b c) (record { overflow_le = omega (arith, h.overflow_le); burden_le = λ e. omega (arith, h.burden_le (omega arith)) }))

pub after_same : (l x y : Cand Plan) → covers (after l x) (after l y) ≡ covers x y
unfolding covers cheaper
after_same l x y = rw (cheap_left l.cost x.cost y.cost, cheap_left l.cost y.cost x.cost)

-- of a strictly cheaper left part the sum is strictly cheaper
pub strict_add : (a b c d : Cost) → cheap b a ≡ false → Cheap c d → cheap (add b d) (add a c) ≡ false
strict_add a b c d e h = false_if (cheap (add b d) (add a c)) (λ t.
    let k = cheap_is (add b d) (add a c) t in
    no_both (cheap b a) (is_cheap b a (record { overflow_le = omega (arith, k.overflow_le, h.overflow_le); burden_le = λ q. omega (arith, k.overflow_le, h.overflow_le, k.burden_le (omega (arith, k.overflow_le, h.overflow_le)), h.burden_le (omega (arith, k.overflow_le, h.overflow_le))) })) e)

pub charged_same : (n : ℕ) (x y : Cand Plan) → covers (charged n x) (charged n y) ≡ covers x y
unfolding covers cheaper
charged_same n x y = rw (cheap_right (penalty_cost n) x.cost y.cost, cheap_right (penalty_cost n) y.cost x.cost)

pub marked_same : (k : ℕ) (x y : Cand Plan) → covers (marked k x) (marked k y) ≡ covers x y
unfolding covers
marked_same k x y = refl
