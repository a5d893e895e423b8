-- What the loops over frames find.
use Rattle.std.proofs.Common.{◌≡◌, ℕ, ◌+◌, ◌-◌, ◌<◌, ◌≤◌, ◌==◌, min, true, false, List, [], ◌∷◌, ◌++◌, Some, None}
use Rattle.std.proofs.Common.{length, take, drop, map, get_or, cond, ap, sym, ◌∙◌, subst, arith}
use Rattle.std.specs.List.{slice_get, position, position_or_len}
use Rattle.std.specs.Prelude.{nat_lt}
use Rattle.std.proofs.lemmas.Bool.Decides.{nat_tests}
use Rattle.std.proofs.lemmas.List.Quantifiers.{position-Some}
use Rattle.std.proofs.lemmas.List.Sums.{position_or_len_is}
use Rattle.std.proofs.lemmas.List.{take-map, take_more, take_all, take_min, map-append, length-append, length-map}
use Rattle.std.proofs.lemmas.List.{length-take-le}
use Rattle.std.proofs.lemmas.Option.{get_or_from_slice_get, slice_get-get_or, slice_get_within}
use Rattle.circular_buffer.specs.Buffer.{Buffer, buffer, keep_last}
use Rattle.call_stacks.specs.Frames.{older_than, returned, trace_at}
use Rattle.call_stacks.specs.declared.stack.Frame.{Frame}

-- the frames below a place don't return to an address
abbrev pub NoneBelow : List Frame → ℕ → ℕ → Type 0
NoneBelow frames target n =
    (k : ℕ) → k < n → (f : Frame) → slice_get frames k ≡ Some f → (f.return_to == target) ≡ false

some_frame : Frame
some_frame = record { site = 0; return_to = 0 }

fails : (frames : List Frame) (target n : ℕ) → n ≤ length frames → NoneBelow frames target n → (k : ℕ) → k < n
    → ((get_or frames k some_frame).return_to == target) ≡ false
fails frames target n within none k less =
    none k less (get_or frames k some_frame) (slice_get-get_or frames k some_frame (omega arith))

-- the one that is found
pub found : (frames : List Frame) (target i : ℕ) (f : Frame) → NoneBelow frames target i → slice_get frames i ≡ Some f
    → f.return_to ≡ target
    → position (λ frame. frame.return_to == target) frames ≡ Some i
found frames target i f none there is =
    let inside : i < length frames = slice_get_within frames i f there in
    let test_is : (f.return_to == target) ≡ true = grind (arith, nat_tests) in
    let P : Frame → Type 0 = λ g. (g.return_to == target) ≡ true in
    let here = subst P (sym (get_or_from_slice_get frames i f some_frame there)) test_is in
    let at : position_or_len (λ frame. frame.return_to == target) frames ≡ i =
    position_or_len_is (λ frame. frame.return_to == target) frames i some_frame (omega arith)
    (fails frames target i (omega arith) none) (λ _. here) in
    let test : nat_lt i (length frames) ≡ true = grind (arith, nat_tests) in
    ap (λ n. cond (nat_lt n (length frames)) (Some n) None) at ∙ ap (λ t. cond t (Some i) None) test

-- there is none
pub missing : (frames : List Frame) (target n : ℕ) → n ≡ length frames → NoneBelow frames target n
    → position (λ frame. frame.return_to == target) frames ≡ None
missing frames target n is none =
    let at : position_or_len (λ frame. frame.return_to == target) frames ≡ n =
    position_or_len_is (λ frame. frame.return_to == target) frames n some_frame (omega arith)
    (fails frames target n (omega arith) none)
    (λ h. absurd (omega arith)) in
    let test : nat_lt n (length frames) ≡ false = grind (arith, nat_tests) in
    ap (λ k. cond (nat_lt k (length frames)) (Some k) None) at ∙ ap (λ t. cond t (Some n) None) test

-- the frames that stay when the newest of them go
pub cut : (items frames : List Frame) (target newer kept : ℕ) → items ≡ frames
    → Some newer ≡ position (λ frame. frame.return_to == target) frames
    → kept ≡ length items - (newer + 1) → keep_last kept items ≡ returned target frames
unfolding returned
cut items frames target newer kept same at is =
    let inside : newer < length frames = (position-Some (λ frame. frame.return_to == target) frames newer some_frame
    (sym at)).0 in
    let gone : length frames - kept ≡ newer + 1 = omega (arith, ap length same) in
    ap (keep_last kept) same ∙ ap (λ k. drop k frames) gone ∙ ap (λ place. older_than place frames) at

pub uncut : (items frames : List Frame) (target : ℕ) → items ≡ frames
    → None ≡ position (λ frame. frame.return_to == target) frames → items ≡ returned target frames
unfolding returned
uncut items frames target same at = same ∙ ap (λ place. older_than place frames) at

-- a list that fits is kept whole
pub kept_whole : (n : ℕ) (frames : List Frame) → length frames ≤ n → keep_last n frames ≡ frames
kept_whole n frames fits =
    let none : length frames - n ≡ 0 = omega arith in
    ap (λ k. drop k frames) none

-- another site
pub sites_more : (pc i : ℕ) (frames : List Frame) (f : Frame) → i < 23 → slice_get frames i ≡ Some f
    → take 24 ((pc ∷ map (λ frame. frame.site) (take i frames)) ++ f.site ∷ []) ≡ pc
    ∷ map (λ frame. frame.site) (take (i + 1) frames)
sites_more pc i frames f few there =
    let inside : i < length frames = slice_get_within frames i f there in
    let sites : List ℕ = map (λ frame. frame.site) (take i frames) in
    let here : get_or frames i f ≡ f = get_or_from_slice_get frames i f f there in
    let more : take (i + 1) frames ≡ take i frames ++ f ∷ [] = take_more frames i f inside
    ∙ ap (λ g. take i frames ++ g ∷ []) here in
    let count : length sites ≡ i = length-map (take i frames) (λ frame. frame.site)
    ∙ length-take-le i frames (omega arith) in
    let few_more : length (sites ++ f.site ∷ []) ≤ 23 = omega (arith, length-append sites (f.site ∷ [])) in
    ap (λ xs. pc ∷ xs) (take_all 23 (sites ++ f.site ∷ []) few_more
    ∙ sym (map-append (λ frame. frame.site) (take i frames) (f ∷ [])))
    ∙ ap (λ xs. pc ∷ map (λ frame. frame.site) xs) (sym more)

-- there is a frame at each place
pub sites_none : (i : ℕ) (frames : List Frame) → i < length frames → slice_get frames i ≡ None → ⊥
sites_none i frames inside none = let there = slice_get-get_or frames i some_frame inside in cc

-- all of them
pub sites_all : (pc n : ℕ) (frames : List Frame) → n ≡ min 23 (length frames)
    → pc ∷ map (λ frame. frame.site) (take n frames) ≡ trace_at pc frames
unfolding trace_at
sites_all pc n frames is =
    let taken : take n frames ≡ take 23 frames = ap (λ k. take k frames) is ∙ take_min 23 frames in
    ap (λ xs. pc ∷ map (λ frame. frame.site) xs) taken
    ∙ ap (λ xs. pc ∷ xs) (sym (take-map (λ frame. frame.site) 23 frames))

-- a copy, made of two parts
pub copied : (made one both : Buffer Frame) (newer older frames : List Frame) (n : ℕ) → made ≡ buffer [] n
    → one ≡ buffer (keep_last made.capacity (made.items ++ newer)) made.capacity
    → both ≡ buffer (keep_last one.capacity (one.items ++ older)) one.capacity
    → newer ++ older ≡ frames → length frames ≤ n → both.items ≡ frames
copied made one both newer older frames n empty first second parts fits =
    let count : length newer + length older ≡ length frames = omega
    (arith, length-append newer older, ap length parts) in
    let P : Buffer Frame → Type 0 = λ b. one ≡ buffer (keep_last b.capacity (b.items ++ newer)) b.capacity in
    let front : one ≡ buffer newer n = subst P empty first
    ∙ ap (λ xs. buffer xs n) (kept_whole n newer (omega arith)) in
    let Q : Buffer Frame → Type 0 = λ b. both ≡ buffer (keep_last b.capacity (b.items ++ older)) b.capacity in
    let whole = subst Q front second in
    ap (λ b. b.items) whole ∙ ap (keep_last n) parts ∙ kept_whole n frames fits
