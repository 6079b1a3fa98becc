use mathlib.Core.Path.{◌≡◌, sym, ap, ◌∙◌}
use mathlib.Core.List.{List, [], map}
use Prim.Native.Nat.{◌+◌, ◌-◌, ◌<◌}
use native.Mathlib.Omega.{arith}
use lib.ListN.{length, get_or, drop, length-drop, length-map}
use lib.Seq.{sets}
use Rattle.report.specs.Memory.{Words}
use Rattle.report.specs.Lists.{map_take}
use Rattle.report_page.specs.Moves.{moved_words}
use Rattle.report_page.proofs.Puts.{put_more, put_end, mapped_at}
use Rattle.report_page.proofs.put_marks.Goals as goal

pub loop-i-preserved : goal.loop-i-preserved
loop-i-preserved c =
    let n = c.args.n in
    let i = c.loop-i.i in
    let marks = c.args.marks.now in
    let f = moved_words c.args.at n in
    let place : n + (i - n) ≡ i = omega arith in
    let next : i + 1 - n ≡ i - n + 1 = omega arith in
    let there : i - n < length (map f (drop n marks)) = omega (arith, length-map (drop n marks) f, length-drop n marks, c.requires.0) in
    let at : get_or (map f (drop n marks)) (i - n) (f []) ≡ c.moved.result = mapped_at f marks n (i - n) [] ∙ rw place (sym c.moved.ensures) in
    let put = put_more (f []) there at c.loop-i.invariant in
    rw next (rw place at put)

pub returns : goal.returns
returns c =
    let f = moved_words c.args.at c.args.n in
    put_end {n = c.args.count} (omega arith) c.loop-i.invariant ∙ ap (λ (vs : List Words). sets c.args.spans.now c.args.n vs) (sym (map_take f c.args.count (drop c.args.n c.args.marks.now)))
