use Rattle.std.proofs.Common.{arith}
use Rattle.wire_proto.proofs.ReadVarint.{found, only, fault}
use Rattle.wire_proto.proofs.varint.read_varint.Goals as goal

pub returns-clause-reads : goal.returns-clause-reads
returns-clause-reads c = found (λ x. (x.0, x.1.now)) c.read_groups.result c.args.at c.args.bytes.now (λ i. omega (arith, c.type_inv.bytes i)) c.read_groups.ensures

pub returns-clause-only : goal.returns-clause-only
returns-clause-only c n rest = only (λ x. (x.0, x.1.now)) c.read_groups.result c.args.at c.args.bytes.now n rest c.read_groups.ensures

pub returns-clause-refuses : goal.returns-clause-refuses
returns-clause-refuses c f = fault (λ x. (x.0, x.1.now)) c.read_groups.result c.args.at c.args.bytes.now f (λ i. omega (arith, c.type_inv.bytes i)) c.read_groups.ensures
