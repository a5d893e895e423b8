use Rattle.std.proofs.Common.{◌+◌, ◌-◌, unwrap_or}
use Rattle.std.specs.BTreeMap.{get}
use Rattle.std.specs.Ordering.{nat_cmp}
use Rattle.shadow_memory.specs.Places.{is_between}
use Rattle.shadow_memory.specs.Codes.{code_at}
use Rattle.shadow_memory.specs.Pages.{marks_mixed}
use Rattle.shadow_memory.proofs.Taking.{copied-inside, copied-mark}
use Rattle.shadow_memory.proofs.marks.Mixed.copy.Goals as goal

pub returns : goal.returns
unfolding marks_mixed
returns c = λ k.
    let there = c.args.from + (k - c.args.at) in
    copied-mark (is_between c.args.at (c.args.at + c.args.count) k) (code_at c.args.source.now.codes there)
    (code_at c.args.self.now.codes k)
    (code_at c.copy.new.self k) (unwrap_or (get nat_cmp c.args.source.now.partly there) 0)
    (unwrap_or (get nat_cmp c.args.self.now.partly k) 0)
    (copied-inside c.args.at c.args.count c.args.from k (code_at c.args.source.now.codes) c.requires.whole)
    (c.copy.ensures k)
