use Rattle.std.proofs.Common.{ℕ, ◌+◌, ◌<◌, subst}
use Rattle.shadow_memory.specs.Memories.{bytes_in}
use Rattle.pruning.proofs.WordLaw.{four-fit}
use Rattle.pruning.proofs.words.passing_word.Goals as goal

pub returns-then-addr-ne0-clause-bytes : goal.returns-then-addr-ne0-clause-bytes
returns-then-addr-ne0-clause-bytes c s shows is = cc

pub returns-clause-bytes : goal.returns-clause-bytes
returns-clause-bytes c s shows is =
    let f = bytes_in c.memory-memory.result.now in
    subst (λ bytes. (i : ℕ) → i < 4 → bytes (c.args.addr + i) < 256) (c.memory-memory.ensures.bytes s shows)
    (four-fit f c.args.addr (subst (λ b. b < 256) c.byte_at.ensures.value c.byte_at.ensures.fits)
    (subst (λ b. b < 256) c.byte_at-2.ensures.value c.byte_at-2.ensures.fits)
    (subst (λ b. b < 256) c.byte_at-3.ensures.value c.byte_at-3.ensures.fits)
    (subst (λ b. b < 256) c.byte_at-4.ensures.value c.byte_at-4.ensures.fits))
