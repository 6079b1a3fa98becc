-- What a call on one file promises where a desk asks for it (document 02, change 8).
use Rattle.std.specs.Prelude.{◌≡◌, Ok, List, ℕ, ◌≤◌, ◌<◌}
use Rattle.machine.specs.Answer.{Answer}
use Rattle.answer.specs.Page.{Promised}
use Rattle.solve_workspace.specs.declared.Bounds.{Bounds}
use Rattle.solve_workspace.specs.declared.RenderOptions.{RenderOptions}
use Rattle.solve_workspace.specs.Meets.{limits}
use Rattle.materialize.specs.Rows.{Row}
use Rattle.render.specs.declared.page.Draft.{Draft}
use Rattle.render.specs.declared.order.Lengths.{Lengths}
use Rattle.render.specs.Order.{PageLent, InOrder}
use Rattle.render.specs.Rendered.{Rendered, meant, Stands}
use Rattle.render.specs.Drafts.{Drafted, Half}
use Rattle.render.specs.Call.{settings}
use Rattle.desks.specs.declared.Desks.{Desks}
use Rattle.desks.specs.Desks.{last_desk, charged}
use Rattle.desks.specs.Lent.{work_in}
use Rattle.desks.specs.Served.{Kept, Serving}
use Rattle.desks.specs.Kinds.{single}

-- the answer, and the record after it; a page is that of the first of the cheapest layouts in choice order
pub record DeskRight (d : ℕ) (D : Desks) (file : List ℕ) (o : RenderOptions) (b : Bounds) (l : Lengths) (a : Answer) (D' : Desks) : Type 0 where
  pub serving : Serving (InOrder o b l) D d (single file (settings o)) (limits b) tt a tt D'
  pub promised : Kept (Promised file (settings o)) a

-- output and span rows stand as the answer says, and its work is charged
pub record DeskRendering (d : ℕ) (D : Desks) (file : List ℕ) (o : RenderOptions) (b : Bounds) (l : Lengths) (output₀ output : List ℕ) (rows₀ rows : List Row) (r : Rendered) : Type 0 where
  pub right : DeskRight d D file o b l (meant r output rows) (charged D d (work_in r))
  pub stands : Stands r output₀ output rows₀ rows

-- its first half
pub record DeskDrafting (d : ℕ) (D : Desks) (file : List ℕ) (o : RenderOptions) (b : Bounds) (l : Lengths) (plans texts : List Row) (bytes : List ℕ) (r : Drafted) : Type 0 where
  pub half : Half (DeskRendering d D file o b l) b plans texts bytes r
  pub lent : (f : Draft) → r ≡ Ok f → PageLent b l

-- ---- what the number of the gate says; 0 is that the call may go on

pub data DeskGate (lent : Type 0) (d : ℕ) : ℕ → Type 0 where
  opens : lent → d ≤ last_desk → DeskGate lent d 0
  order : (lent → ⊥) → DeskGate lent d 1
  desk : lent → last_desk < d → DeskGate lent d 28
