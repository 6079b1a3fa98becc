use Rattle.file_encode.specs.Fields.{Bytes}
use Rattle.render.proofs.FromFile.{holding}
use Rattle.render.proofs.Renders.{file_half, laid_half}
use Rattle.render.proofs.call.render_lent.Goals as goal

pub read_lent-requires : goal.read_lent-requires
read_lent-requires c = c.requires.0

pub returns-in-Err : goal.returns-in-Err
returns-in-Err c =
    let z : Bytes c.args.file.now = record { byte = λ i. (c.shared_slice_known-1.given i).fits } in
    λ l i. file_half c.args.file.now c.args.options c.args.b l z i c.read_lent.ensures c.requires.0 _ c.in-Err.is c.number.ensures c.uncounted.ensures

pub lay_out_held-requires : goal.lay_out_held-requires
lay_out_held-requires c =
    let z : Bytes c.args.file.now = record { byte = λ i. (c.shared_slice_known-1.given i).fits } in
    let pre = c.requires in
    (pre.1, pre.2, holding c.args.file.now _ _ _ _ _ _ _ z c.read_lent.ensures c.in-Ok.is, pre.3)

pub returns-in-Ok : goal.returns-in-Ok
returns-in-Ok c =
    let z : Bytes c.args.file.now = record { byte = λ i. (c.shared_slice_known-1.given i).fits } in
    λ l i. laid_half c.args.file.now c.args.options c.args.b l z i c.read_lent.ensures _ c.in-Ok.is c.lay_out_held.result c.lay_out_held.ensures
