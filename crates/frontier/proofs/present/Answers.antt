-- `frontier::present` meets its contract.
use mathlib.Core.Path.{refl}
use native.Mathlib.Omega.{arith}
use Rattle.frontier.specs.Candidates.{carried}
use Rattle.frontier.proofs.Presenting.{as_told, was_pruned, fresh, refused, as_it_is, few_left, room, joined}
use Rattle.frontier.proofs.present.Goals as goal

pub weigh-requires : goal.weigh-requires
weigh-requires c = c.requires.sound

pub returns-then-size-b : goal.returns-then-size-b
returns-then-size-b c =
    let x = carried c.args.candidate in
    let e = as_told c.requires x (c.weigh.ensures c.requires.sound) c.in-Beside.is in
    refused c.requires x e.0 e.1 (omega arith)

pub admit-requires : goal.admit-requires
admit-requires c =
    let x = carried c.args.candidate in
    let e = as_told c.requires x (c.weigh.ensures c.requires.sound) c.in-Beside.is in
    room c.requires x e.0 (as_it_is c.requires x e.0 e.1) (omega arith)

pub prune-left-requires : goal.prune-left-requires
prune-left-requires c =
    let x = carried c.args.candidate in
    fresh c.requires x (as_told c.requires x (c.weigh.ensures c.requires.sound) c.in-Removing.is).0

pub overflow_sub-result : goal.overflow_sub-result
overflow_sub-result c =
    let x = carried c.args.candidate in
    (c.prune-left.ensures (fresh c.requires x (as_told c.requires x (c.weigh.ensures c.requires.sound) c.in-Removing.is).0)).fewer

pub admit-requires-in-Removing : goal.admit-requires-in-Removing
admit-requires-in-Removing c =
    let x = carried c.args.candidate in
    let e = as_told c.requires x (c.weigh.ensures c.requires.sound) c.in-Removing.is in
    let z = c.prune-left.ensures (fresh c.requires x e.0) in
    room c.requires x e.0 z (few_left c.requires x e.0 z e.1)

pub returns-in-Pruned : goal.returns-in-Pruned
returns-in-Pruned c =
    let x = carried c.args.candidate in
    was_pruned c.requires x (as_told c.requires x (c.weigh.ensures c.requires.sound) c.in-Pruned.is)

pub returns-else-size-b : goal.returns-else-size-b
returns-else-size-b c =
    let x = carried c.args.candidate in
    let e = as_told c.requires x (c.weigh.ensures c.requires.sound) c.in-Beside.is in
    let z = as_it_is c.requires x e.0 e.1 in
    joined c.requires x e.0 z (c.admit.ensures (room c.requires x e.0 z (omega arith))) (omega arith)

pub returns-in-Removing : goal.returns-in-Removing
returns-in-Removing c =
    let x = carried c.args.candidate in
    let e = as_told c.requires x (c.weigh.ensures c.requires.sound) c.in-Removing.is in
    let z = c.prune-left.ensures (fresh c.requires x e.0) in
    joined c.requires x e.0 z (c.admit-in-Removing.ensures (room c.requires x e.0 z (few_left c.requires x e.0 z e.1))) refl
