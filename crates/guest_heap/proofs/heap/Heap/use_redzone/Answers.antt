-- Bounds that say nothing are those of any redzone.
use Rattle.guest_heap.proofs.Bounding.{fresh_bounds}
use Rattle.guest_heap.proofs.KnownSteps.{known_anew}
use Rattle.guest_heap.proofs.heap.Heap.use_redzone.Goals as goal

pub invariant_of-self : goal.invariant_of-self
invariant_of-self c =
    let heap = c.args.self.now in
    record {
      grid = heap.grid;
      some = heap.some;
      within = heap.within;
      sound = heap.sound;
      numbered = heap.numbered;
      volume = heap.volume;
      known = record { by_class = fresh_bounds _ _ _ c.forget.ensures; by_part = heap.known.by_part };
    }

pub invariant_of-self-then-self-redzone : goal.invariant_of-self-then-self-redzone
invariant_of-self-then-self-redzone c =
    let heap = c.args.self.now in
    record {
      grid = heap.grid;
      some = heap.some;
      within = heap.within;
      sound = heap.sound;
      numbered = heap.numbered;
      volume = heap.volume;
      known = known_anew _ _ _ _ c.forget.ensures c.new.ensures;
    }
