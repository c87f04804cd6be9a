use Rattle.std.proofs.Common.{leb, arith, rules}
use Rattle.std.proofs.lemmas.List.Sorted.{IsPartitionPoint-from_clause}
use Rattle.sources.specs.declared.rows.Before.{Before}
use Rattle.sources.specs.Rows.{registers_before}
use Rattle.sources.specs.Meaning.{gates_of}
use Rattle.sources.proofs.Ranks.{registers_up}
use Rattle.sources.proofs.Searches.{parted, found}
use Rattle.sources.proofs.formula.Formula.register.Goals as goal

pub returns : goal.returns
returns c =
    let f = c.args.self.now in
    let gs = gates_of f in
    let read = λ (b : Before). b.registers in
    let parts = parted gs f.before read (registers_before gs) f.counted (omega arith) (λ w b h. h.1) (registers_up gs) _ c.args.rank c.behind.ensures in
    let point = IsPartitionPoint-from_clause (λ b. leb (read b) c.args.rank) _ _ c.partition_point.ensures.partitioned parts (λ a r q k. search rules) in
    let at = found gs f.before read (registers_before gs) f.counted (omega arith) (λ w b h. h.1) (registers_up gs) _ c.args.rank _ (record { plain = 0; registers = 0 }) c.behind.ensures (omega arith) c.requires c.partition_point.ensures.bound point in
    record { low = at.0; high = at.1; within = at.2 }
