use Rattle.std.proofs.Common.{rules, nat_le}
use Rattle.std.proofs.lemmas.List.Sorted.{IsPartitionPoint-from_clause}
use Rattle.call_stacks.specs.declared.block.Block.{Block}
use Rattle.leak_search.proofs.finding.up_to.Goals as goal

pub returns-clause-point : goal.returns-clause-point
returns-clause-point c =
    IsPartitionPoint-from_clause (λ (b : Block). nat_le b.start c.args.addr) c.args.blocks.now c.partition_point.result
    c.partition_point.ensures.partitioned c.requires
    (λ a r f' called. search rules)
