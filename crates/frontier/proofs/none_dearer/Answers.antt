-- `frontier::none_dearer` meets its contract.
use Rattle.frontier.proofs.none_dearer.Goals as goal

pub stays-requires : goal.stays-requires
stays-requires c = c.requires c.if-s-eq-NIL.false
