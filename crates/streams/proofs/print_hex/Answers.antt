use Rattle.std.proofs.Common.{subst, OnOk, IfSome}
use Rattle.std.specs.Fmt.{styled_digits_output}
use Rattle.std.specs.Io.KnownBytes.{Appends}
use Rattle.streams.proofs.Padded.{styled_hex}
use Rattle.streams.proofs.print_hex.Goals as goal

pub returns : goal.returns
returns g c = styled_hex _ c.write.result _ c.args.digits c.args.n c.in_radix.ensures (subst (λ s. OnOk c.write.result (IfSome (styled_digits_output c.in_radix.result s) (Appends (g.W.Write.contents c.args.writer.now) (g.W.Write.contents c.write.new.self)))) c.laid_out.ensures c.write.ensures.bytes)
