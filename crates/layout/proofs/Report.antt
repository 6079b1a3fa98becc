-- A report's answer is its rows' answers, one below the other.
use Rattle.std.specs.Prelude.{◌≡◌, List}
use Rattle.std.proofs.Math.Path.{refl}
use Rattle.std.proofs.Math.Option.{some}
use Rattle.layout.specs.Document.{Doc, newline, cat}
use Rattle.layout.specs.Rules.{Rules}
use Rattle.layout.specs.Lawful.{Lawful}
use Rattle.layout.specs.Layout.{Plan, line, join}
use Rattle.layout.specs.Choice.{layouts, chosen}
use Rattle.layout.specs.Report.{below, report_doc, under, stacked, Each, no_row, one_more}
use Rattle.layout.proofs.Rows.{rows_chosen}

module _ (R : Rules) (L : Lawful R) where
  below_chosen : (d : Doc) (p : Plan) {ds : List Doc} {ps : List Plan} → chosen R d ≡ some p → Each R ds ps → chosen R (below d ds) ≡ some (under p ps)
  below_chosen d p e no_row = e
  below_chosen d p e (one_more {d = f} {p = q} g h) = below_chosen (cat (cat d newline) f) (join (join p (line 0)) q) (rows_chosen R L d f p q e g) h

  -- the first of the cheapest layouts of the one document is the rows' first of the cheapest, one below the other
  pub report_chosen : {ds : List Doc} {ps : List Plan} → Each R ds ps → chosen R (report_doc ds) ≡ some (stacked ps)
  unfolding layouts
  report_chosen no_row = refl
  report_chosen (one_more {d = d} {p = p} e h) = below_chosen d p e h
