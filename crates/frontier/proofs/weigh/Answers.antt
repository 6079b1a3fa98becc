-- `frontier::weigh` meets its contract.
use mathlib.Core.Path.{sym, ◌∙◌}
use Rattle.frontier.proofs.Searching.{whole, looked, fresh_by, low_at, all_kept, fewer_kept}
use Rattle.frontier.proofs.weigh.Goals as goal

pub search-way-requires : goal.search-way-requires
search-way-requires c = whole c.requires

pub covered-requires : goal.covered-requires
covered-requires c = looked c.requires (c.search-way.ensures (whole c.requires))

pub returns-then-covered : goal.returns-then-covered
returns-then-covered c = λ p. sym (c.covered.ensures (looked p (c.search-way.ensures (whole p)))) ∙ c.if-covered.true

pub none_dearer-requires : goal.none_dearer-requires
none_dearer-requires c = let e = c.search-way.ensures (whole c.requires) in low_at (fresh_by c.requires (c.covered.ensures (looked c.requires e)) c.if-covered.false) e

pub returns-then-none_dearer : goal.returns-then-none_dearer
returns-then-none_dearer c = λ p.
    let e = c.search-way.ensures (whole p) in
    let h = fresh_by p (c.covered.ensures (looked p e)) c.if-covered.false in
    (h.none, all_kept h e (sym c.none_dearer.ensures ∙ c.if-none_dearer.true))

pub returns-else-none_dearer : goal.returns-else-none_dearer
returns-else-none_dearer c = λ p.
    let e = c.search-way.ensures (whole p) in
    let h = fresh_by p (c.covered.ensures (looked p e)) c.if-covered.false in
    (h.none, fewer_kept h e (sym c.none_dearer.ensures ∙ c.if-none_dearer.false))
