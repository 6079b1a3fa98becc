use mathlib.Core.Path.{refl, subst}
use Rattle.materialize.specs.declared.Act.{Act}
use Rattle.materialize.specs.Writes.{Allowed}
use Rattle.materialize.proofs.Parts.{wrote_none}
use Rattle.materialize.proofs.perform.Goals as goal

pub returns-in-Pass : goal.returns-in-Pass
returns-in-Pass c = rw c.in-Pass.is (record { output_is = wrote_none c.args.w.at c.args.output.now; depth_is = refl; mark_is = refl; fits = tt })

pub put_text-requires : goal.put_text-requires
put_text-requires c = subst (λ (x : Act). Allowed x c.args.w c.args.bytes.now c.args.depth.now c.args.output.now) c.in-Put.is c.requires

pub returns-in-Put : goal.returns-in-Put
returns-in-Put c = rw c.in-Put.is (record { output_is = c.put_text.ensures; depth_is = refl; mark_is = refl; fits = tt })

pub put_newline-requires : goal.put_newline-requires
put_newline-requires c = subst (λ (x : Act). Allowed x c.args.w c.args.bytes.now c.args.depth.now c.args.output.now) c.in-Line.is c.requires

pub returns-in-Line : goal.returns-in-Line
returns-in-Line c = rw c.in-Line.is (record { output_is = c.put_newline.ensures; depth_is = refl; mark_is = refl; fits = tt })

pub push_open_span-requires : goal.push_open_span-requires
push_open_span-requires c = subst (λ (x : Act). Allowed x c.args.w c.args.bytes.now c.args.depth.now c.args.output.now) c.in-Open.is c.requires

pub returns-in-Open : goal.returns-in-Open
returns-in-Open c = rw c.in-Open.is (record { output_is = wrote_none c.args.w.at c.args.output.now; depth_is = c.push_open_span.ensures.0; mark_is = c.push_open_span.ensures.1; fits = c.push_open_span.ensures.2 })

pub pop_open_span-requires : goal.pop_open_span-requires
pop_open_span-requires c = subst (λ (x : Act). Allowed x c.args.w c.args.bytes.now c.args.depth.now c.args.output.now) c.in-Close.is c.requires

pub returns-in-Close : goal.returns-in-Close
returns-in-Close c = rw c.in-Close.is (record { output_is = wrote_none c.args.w.at c.args.output.now; depth_is = refl; mark_is = c.pop_open_span.ensures; fits = tt })
