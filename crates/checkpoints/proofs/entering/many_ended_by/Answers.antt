use Rattle.std.proofs.Common.{◌≡◌, ℕ, ◌<◌, ◌≤◌, arith, rules, leb, true, false}
use Rattle.std.proofs.lemmas.Bool.Decides.{nat_tests}
use Rattle.std.proofs.lemmas.List.Sorted.{IsPartitionPoint-from_clause, IsPartitionedBy-leb}
use Rattle.checkpoints.specs.declared.uses.Row.{Row}
use Rattle.checkpoints.proofs.entering.many_ended_by.Goals as goal

passes : (m n : ℕ) → leb m n ≡ true → m ≤ n
passes m n h = grind (arith, nat_tests)

fails : (m n : ℕ) → leb m n ≡ false → n < m
fails m n h = grind (arith, nat_tests)

pub returns-clause-before : goal.returns-clause-before
returns-clause-before c k d l =
    let parted = IsPartitionedBy-leb (λ (row : Row). row.end) c.args.rows.now c.args.word c.requires in
    let parts = IsPartitionPoint-from_clause (λ (row : Row). leb row.end c.args.word) c.args.rows.now _
    c.partition_point.ensures.partitioned parted (λ a r q k. search rules) in
    passes _ c.args.word (parts.0 k d (omega arith) l)

pub returns-clause-next : goal.returns-clause-next
returns-clause-next c d l =
    let parted = IsPartitionedBy-leb (λ (row : Row). row.end) c.args.rows.now c.args.word c.requires in
    let parts = IsPartitionPoint-from_clause (λ (row : Row). leb row.end c.args.word) c.args.rows.now _
    c.partition_point.ensures.partitioned parted (λ a r q k. search rules) in
    fails _ c.args.word (parts.1 _ d (omega arith) l)
