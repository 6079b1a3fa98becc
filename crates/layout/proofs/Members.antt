-- The list of layouts has the layouts that the document allows, and no other.
use Rattle.std.specs.Prelude.{◌↔◌, ℕ}
use mathlib.Core.List.{Memᴰ as In}
use Rattle.layout.specs.Document.{Doc}
use Rattle.layout.specs.Rules.{Rules}
use Rattle.layout.specs.Layout.{Plan, Allows}
use Rattle.layout.specs.Choice.{layouts}
use Rattle.layout.specs.Members.{layouts_allowed, allowed_layouts}

module _ (R : Rules) where
  pub membership : (d : Doc) (c i : ℕ) (p : Plan) → In p (layouts R d c i) ↔ Allows R d c i p
  membership d c i p = (layouts_allowed R d c i, allowed_layouts R)
