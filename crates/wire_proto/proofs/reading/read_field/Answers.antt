use Rattle.std.proofs.Common.{arith}
use Rattle.wire_proto.proofs.FieldReads.{field_reads}
use Rattle.wire_proto.proofs.reading.read_field.Goals as goal

pub returns-in_err-number-clause-spelled : goal.returns-in_err-number-clause-spelled
returns-in_err-number-clause-spelled c = field_reads c.args.at c.args.bytes.now (λ i. omega (arith, c.type_inv.bytes i)) c.requires

pub returns-in_err-value-clause-spelled : goal.returns-in_err-value-clause-spelled
returns-in_err-value-clause-spelled c = field_reads c.args.at c.args.bytes.now (λ i. omega (arith, c.type_inv.bytes i)) c.requires

pub returns-clause-spelled : goal.returns-clause-spelled
returns-clause-spelled c = field_reads c.args.at c.args.bytes.now (λ i. omega (arith, c.type_inv.bytes i)) c.requires
