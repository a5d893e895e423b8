-- The state before step 0: what isn't changed by words written into it.
use Rattle.std.proofs.Common.{◌≡◌, ℕ, zero, suc, ◌+◌, add-one, ◌<◌, take, length, get_or, arith, false, List, [], ◌∷◌}
use Rattle.std.proofs.Common.{◌++◌, refl}
use Rattle.guest_machine.specs.Run.{poked, start_state}
use Rattle.guest_machine.specs.State.{State}
use Rattle.scenario.specs.Scenario.{Scenario, first_state, with_words}
use Rattle.scenario.specs.declared.written.Written.{Written}

-- another word
pub with-more : (s : State) (words : List Written) (word : Written)
    → with_words s (words ++ word ∷ []) ≡ poked (with_words s words) word.addr word.code
with-more s [] word = refl
with-more s (w ∷ words) word = with-more (poked s w.addr w.code) words word

-- the first words, and another
with-suc : (s : State) (words : List Written) (i : ℕ) (d : Written) → i < length words
    → with_words s (take (suc i) words) ≡ poked (with_words s (take i words)) (get_or words i d).addr
    (get_or words i d).code
with-suc s [] i d h = absurd (omega arith)
with-suc s (w ∷ words) zero d h = refl
with-suc s (w ∷ words) (suc i) d h = with-suc (poked s w.addr w.code) words i d (omega arith)

pub with-next : (s : State) (words : List Written) (i : ℕ) (d : Written) → i < length words
    → with_words s (take (i + 1) words) ≡ poked (with_words s (take i words)) (get_or words i d).addr
    (get_or words i d).code
with-next s words i d h = rw add-one (with-suc s words i d h)

position-with : (s : State) (words : List Written) → (with_words s words).position ≡ s.position
unfolding poked
position-with s [] = refl
position-with s (w ∷ words) = position-with (poked s w.addr w.code) words

end-with : (s : State) (words : List Written) → (with_words s words).end_seen ≡ s.end_seen
unfolding poked
end-with s [] = refl
end-with s (w ∷ words) = end-with (poked s w.addr w.code) words

calls-with : (s : State) (words : List Written) → (with_words s words).heap_calls ≡ s.heap_calls
unfolding poked
calls-with s [] = refl
calls-with s (w ∷ words) = calls-with (poked s w.addr w.code) words

-- at first nothing was read, no end seen and no heap call made
pub nothing_read : (sc : Scenario) → (first_state sc).position ≡ 0
unfolding first_state start_state
nothing_read sc = position-with (start_state sc.image) sc.words

pub nothing_ended : (sc : Scenario) → (first_state sc).end_seen ≡ false
unfolding first_state start_state
nothing_ended sc = end-with (start_state sc.image) sc.words

pub nothing_called : (sc : Scenario) → (first_state sc).heap_calls ≡ 0
unfolding first_state start_state
nothing_called sc = calls-with (start_state sc.image) sc.words
