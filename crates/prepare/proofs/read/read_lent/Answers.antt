use lib.Seq.{length-take-le}
use mathlib.Core.Path.{sym}
use native.Mathlib.Omega.{arith}
use Rattle.file_encode.specs.Fields.{Bytes}
use Rattle.file_form.specs.Faults.{form_faults}
use Rattle.prepare.proofs.Reading.{err_is, bounds, formed, few, answer_ill, answer_wrong, answer_right}
use Rattle.prepare.proofs.read.read_lent.Goals as goal

pub form_told-requires : goal.form_told-requires
form_told-requires c = rw c.fill-f.ensures.fault (form_faults c.args.file.now)

pub returns-in_err-form_told : goal.returns-in_err-form_told
returns-in_err-form_told c = rw (err_is c.from_residual.ensures.1) (answer_ill c.args.file.now c.fill-f.result _ _ _ _ _ c.fill-f.ensures c.requires _ c.in_err-form_told.ensures)

pub slice_bounds-judged-end : goal.slice_bounds-judged-end
slice_bounds-judged-end c =
    let z : Bytes c.args.file.now = record { byte = λ i. (c.type_inv.file i).fits } in
    let b = bounds c.args.file.now c.fill-f.result _ _ _ _ _ c.fill-f.ensures z (sym c.in_ok-form_told.ensures) in
    omega (arith, b.nodes, c.fill-f.auto.nodes, c.requires.nodes_lent)

pub slice_bounds-judged-end-2 : goal.slice_bounds-judged-end-2
slice_bounds-judged-end-2 c =
    let z : Bytes c.args.file.now = record { byte = λ i. (c.type_inv.file i).fits } in
    let b = bounds c.args.file.now c.fill-f.result _ _ _ _ _ c.fill-f.ensures z (sym c.in_ok-form_told.ensures) in
    sym (length-take-le _ c.fill-f.new.nodes (omega (arith, b.nodes, c.fill-f.auto.nodes, c.requires.nodes_lent)))

pub slice_bounds-judged-end-3 : goal.slice_bounds-judged-end-3
slice_bounds-judged-end-3 c =
    let z : Bytes c.args.file.now = record { byte = λ i. (c.type_inv.file i).fits } in
    let b = bounds c.args.file.now c.fill-f.result _ _ _ _ _ c.fill-f.ensures z (sym c.in_ok-form_told.ensures) in
    omega (arith, b.edges, c.fill-f.auto.edges, c.requires.edges_lent)

pub slice_bounds-judged-end-4 : goal.slice_bounds-judged-end-4
slice_bounds-judged-end-4 c =
    let z : Bytes c.args.file.now = record { byte = λ i. (c.type_inv.file i).fits } in
    let b = bounds c.args.file.now c.fill-f.result _ _ _ _ _ c.fill-f.ensures z (sym c.in_ok-form_told.ensures) in
    sym (length-take-le _ c.fill-f.new.edges (omega (arith, b.edges, c.fill-f.auto.edges, c.requires.edges_lent)))

pub slice_bounds-judged-end-5 : goal.slice_bounds-judged-end-5
slice_bounds-judged-end-5 c =
    let z : Bytes c.args.file.now = record { byte = λ i. (c.type_inv.file i).fits } in
    let b = bounds c.args.file.now c.fill-f.result _ _ _ _ _ c.fill-f.ensures z (sym c.in_ok-form_told.ensures) in
    omega (arith, b.choices, c.fill-f.auto.choices, c.requires.choices_lent)

pub slice_bounds-judged-end-6 : goal.slice_bounds-judged-end-6
slice_bounds-judged-end-6 c =
    let z : Bytes c.args.file.now = record { byte = λ i. (c.type_inv.file i).fits } in
    let b = bounds c.args.file.now c.fill-f.result _ _ _ _ _ c.fill-f.ensures z (sym c.in_ok-form_told.ensures) in
    sym (length-take-le _ c.fill-f.new.choices (omega (arith, b.choices, c.fill-f.auto.choices, c.requires.choices_lent)))

pub slice_bounds-judged-end-7 : goal.slice_bounds-judged-end-7
slice_bounds-judged-end-7 c =
    let z : Bytes c.args.file.now = record { byte = λ i. (c.type_inv.file i).fits } in
    let b = bounds c.args.file.now c.fill-f.result _ _ _ _ _ c.fill-f.ensures z (sym c.in_ok-form_told.ensures) in
    omega (arith, b.texts, c.fill-f.auto.texts, c.requires.texts_lent)

pub slice_bounds-judged-end-8 : goal.slice_bounds-judged-end-8
slice_bounds-judged-end-8 c =
    let z : Bytes c.args.file.now = record { byte = λ i. (c.type_inv.file i).fits } in
    let b = bounds c.args.file.now c.fill-f.result _ _ _ _ _ c.fill-f.ensures z (sym c.in_ok-form_told.ensures) in
    sym (length-take-le _ c.fill-f.new.texts (omega (arith, b.texts, c.fill-f.auto.texts, c.requires.texts_lent)))

pub slice_bounds-judged-end-9 : goal.slice_bounds-judged-end-9
slice_bounds-judged-end-9 c =
    let z : Bytes c.args.file.now = record { byte = λ i. (c.type_inv.file i).fits } in
    let b = bounds c.args.file.now c.fill-f.result _ _ _ _ _ c.fill-f.ensures z (sym c.in_ok-form_told.ensures) in
    omega (arith, b.bytes, c.fill-f.auto.bytes, c.requires.bytes_lent)

pub slice_bounds-judged-end-10 : goal.slice_bounds-judged-end-10
slice_bounds-judged-end-10 c =
    let z : Bytes c.args.file.now = record { byte = λ i. (c.type_inv.file i).fits } in
    let b = bounds c.args.file.now c.fill-f.result _ _ _ _ _ c.fill-f.ensures z (sym c.in_ok-form_told.ensures) in
    sym (length-take-le _ c.fill-f.new.bytes (omega (arith, b.bytes, c.fill-f.auto.bytes, c.requires.bytes_lent)))

pub judged-requires : goal.judged-requires
judged-requires c =
    let z : Bytes c.args.file.now = record { byte = λ i. (c.type_inv.file i).fits } in
    record { formed = formed c.args.file.now c.fill-f.result _ _ _ _ _ c.fill-f.ensures z (sym c.in_ok-form_told.ensures); choices_len_bound = few c.args.file.now c.fill-f.result _ _ _ _ _ c.fill-f.ensures z (sym c.in_ok-form_told.ensures) }

pub returns-in_err-judged : goal.returns-in_err-judged
returns-in_err-judged c =
    rw (err_is c.from_residual-in_err-judged.ensures.1)
    (answer_wrong c.args.file.now c.fill-f.result _ _ _ _ _ c.fill-f.ensures c.requires (sym c.in_ok-form_told.ensures) _ c.in_err-judged.ensures)

pub returns : goal.returns
returns c = answer_right c.args.file.now c.fill-f.result _ _ _ _ _ c.fill-f.ensures c.requires (sym c.in_ok-form_told.ensures) c.in_ok-judged.ensures
