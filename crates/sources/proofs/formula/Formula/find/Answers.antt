use Rattle.std.proofs.Common.{◌+◌, ◌*◌, leb, arith, rules}
use Rattle.std.proofs.lemmas.List.Sorted.{IsPartitionPoint-from_clause}
use Rattle.formulas.specs.Kinds.{starts}
use Rattle.wireclauses.specs.Sizes.{register_size}
use Rattle.sources.specs.declared.rows.Before.{Before}
use Rattle.sources.specs.Places.{place}
use Rattle.sources.specs.Meaning.{gates_of}
use Rattle.sources.proofs.Searches.{parted, found, place_same, place_up}
use Rattle.sources.proofs.formula.Formula.find.Goals as goal

pub returns : goal.returns
returns c =
    let f = c.args.self.now in
    let gs = gates_of f in
    let size = register_size (starts f.kind) c.args.i in
    let read = λ (b : Before). b.plain + c.register_size-c.result * b.registers in
    let same = place_same gs c.register_size-c.result size c.register_size-c.ensures.is in
    let up = place_up gs size in
    let parts = parted gs f.before read (place gs size) f.counted (omega arith) same up _ c.args.k c.behind.ensures in
    let point = IsPartitionPoint-from_clause (λ b. leb (read b) c.args.k) _ _ c.partition_point.ensures.partitioned parts (λ a r q k. search rules) in
    let at = found gs f.before read (place gs size) f.counted (omega arith) same up _ c.args.k _ (record { plain = 0; registers = 0 }) c.behind.ensures (omega arith) c.requires c.partition_point.ensures.bound point in
    record { low = at.0; high = at.1; within = at.2 }
