-- Bytes that are served one after another.
use Rattle.std.proofs.Common.{◌≡◌, ◌≢◌, ℕ, zero, suc, List, [], ◌∷◌, ◌++◌, Bool, true, false, not, Option, refl, sym}
use Rattle.std.proofs.Common.{ap, ◌∙◌, subst}
use Rattle.std.proofs.Common.{cond, arith, ◌+◌, ◌-◌, ◌≤◌, ◌<◌}
use Rattle.std.proofs.Common.{◌==◌, length, length-append, append_assoc, take, ne_eqb, slice_index, if◌then◌else◌, None}
use Rattle.std.proofs.Common.{Some, append-nil}
use Rattle.std.proofs.Common.{Result, Ok}
use Rattle.std.proofs.Common.{add-zero, ⊎_elim, length-take, get_or, drop}
use Rattle.std.proofs.lemmas.List.{take-append-drop, take_more, take_all}
use Rattle.std.specs.Bool.{MatchBool}
use Rattle.std.specs.Io.KnownBytes.{Appends}
use Rattle.std.specs.Str.Lines.{strip_carriage_return}
use Rattle.line_protocol.specs.Answers.{Answers, AreLongAlike, Relation, joined}
use Rattle.line_protocol.specs.Lines.{lines_by, KeepsByte}
use Rattle.line_protocol.specs.Served.{standing}
use Rattle.line_protocol.specs.Serving.{Answered, Cut, Fed, Over, Broken, Ended}
use Rattle.line_protocol.specs.declared.serving.answer.Written.{Written}
use Rattle.line_protocol.specs.declared.serving.server.Server.{Server}
use Rattle.line_protocol.proofs.Known.{appends-then}

-- ---- known numbers and tests

appends-none : (held : Option (List ℕ)) → Appends held held []
appends-none None = tt
appends-none (Some xs) = sym (append-nil xs)

joined-one : (reply : List ℕ) → joined (reply ∷ []) ≡ reply
joined-one reply = append-nil reply

-- the branch of a test that is known
under-true : (t : Bool) (P Q : Type 0) → t ≡ true → P → MatchBool t P Q
under-true true P Q e p = p
under-true false P Q e p = absurd (let e' : false ≡ true = e in cc)

under-false : (t : Bool) (P Q : Type 0) → t ≡ false → Q → MatchBool t P Q
under-false true P Q e q = absurd (let e' : true ≡ false = e in cc)
under-false false P Q e q = q

under-both : (t : Bool) (P Q : Type 0) → P → Q → MatchBool t P Q
under-both true P Q p q = p
under-both false P Q p q = q

ok_is : (E : Type 0) (x y : Bool) → ◌≡◌ {A = Result Bool E} (Ok x) (Ok y) → x ≡ y
ok_is E x y e = cc

joined-append : (xs ys : List (List ℕ)) → joined (xs ++ ys) ≡ joined xs ++ joined ys
joined-append [] ys = refl
joined-append (x ∷ xs) ys =
    ap (λ (zs : List ℕ). x ++ zs) (joined-append xs ys) ∙ sym (append_assoc x (joined xs) (joined ys))

-- counts that rise twice
standing-twice : (a b c x y : ℕ) → standing b ≡ standing (a + x) → standing c ≡ standing (b + y)
    → standing c ≡ standing (a + (x + y))
standing-twice a b c x y h k = omega arith

standing-thrice : (a b c x y z : ℕ) → standing b ≡ standing (a + x) → standing c ≡ standing (b + y + z)
    → standing c ≡ standing (a + (x + y) + z)
standing-thrice a b c x y z h k = omega arith

-- the bytes up to a place, the one there, and the rest
cut-at : (bytes : List ℕ) (i : ℕ) → i < length bytes
    → (take i bytes ++ (get_or bytes i 0 ∷ [])) ++ drop (i + 1) bytes ≡ bytes
cut-at bytes i inside =
    ap (λ (ws : List ℕ). ws ++ drop (i + 1) bytes) (sym (take_more bytes i 0 inside)) ∙ take-append-drop (i + 1) bytes

-- ---- of any relations

pub fed-none : (from : Relation) (server : Server) (held : Option (List ℕ)) → Fed from from server server held held []
fed-none from server held = record {
  done = [];
  appended = appends-none held;
  replies = rw add-zero refl;
  written = rw add-zero refl;
  goes = λ last more n all rs e h.
      let from-none : all ≡ n + 0 = e in
      let same : n ≡ all = omega (arith, from-none) in
      subst (λ (k : ℕ). from (take k (lines_by last server.kept.items more)) rs) same h;
}

-- all lines are the first of them
pub goes-whole : (from after : Relation) (a b : Server) (h0 h1 : Option (List ℕ)) (bytes : List ℕ)
    (f : Fed from after a b h0 h1 bytes)
    (last : Bool) (more : List ℕ)
    (rs : List (List ℕ)) → after (lines_by last b.kept.items more) rs
    → from (lines_by last a.kept.items (bytes ++ more)) (f.done ++ rs)
goes-whole from after a b h0 h1 bytes f last more rs h =
    let now = lines_by last b.kept.items more in
    let all = lines_by last a.kept.items (bytes ++ more) in
    let n = length now + length all in
    let within : length now ≤ n = omega arith in
    let within' : length all ≤ n + length f.done = omega arith in
    subst (λ (ls : List (List ℕ)). from ls (f.done ++ rs)) (take_all (n + length f.done) all within')
    (f.goes last more n (n + length f.done) rs refl
    (subst (λ (ls : List (List ℕ)). after ls rs) (sym (take_all n now within)) h))

module _ (from mid : Relation) (a b c : Server) (h0 h1 h2 : Option (List ℕ)) (xs ys : List ℕ)
    (f : Fed from mid a b h0 h1 xs) where
  appended-then : (zs : List ℕ) → Appends h1 h2 zs → Appends h0 h2 (joined f.done ++ zs)
  appended-then zs k = appends-then h0 h1 h2 (joined f.done) zs f.appended k

  replies-then : (n : ℕ) → standing c.written.replies ≡ standing (b.written.replies + n)
      → standing c.written.replies ≡ standing (a.written.replies + (length f.done + n))
  replies-then n e = standing-twice a.written.replies b.written.replies c.written.replies (length f.done) n f.replies e

  bytes-then : (n : ℕ) → standing c.written.bytes ≡ standing (b.written.bytes + n)
      → standing c.written.bytes ≡ standing (a.written.bytes + (length (joined f.done) + n))
  bytes-then n e = standing-twice a.written.bytes b.written.bytes c.written.bytes (length (joined f.done)) n f.written e

  pub fed-then : (after : Relation) → Fed mid after b c h1 h2 ys → Fed from after a c h0 h2 (xs ++ ys)
  fed-then after g = record {
    done = f.done ++ g.done;
    appended = rw joined-append (appended-then (joined g.done) g.appended);
    replies = rw length-append (replies-then (length g.done) g.replies);
    written = rw (joined-append, length-append) (bytes-then (length (joined g.done)) g.written);
    goes = λ last more n all rs e h.
        let both : all ≡ (n + length g.done) + length f.done = e ∙ rw length-append (omega arith) in
        rw (append_assoc xs ys more, append_assoc f.done g.done rs)
        (f.goes last (ys ++ more) (n + length g.done) all (g.done ++ rs) both
        (g.goes last more n (n + length g.done) rs refl h));
  }

  pub over-then : Over mid b h1 h2 ys → Over from a h0 h2 (xs ++ ys)
  over-then g = record {
    done = f.done ++ g.done;
    appended = rw joined-append (appended-then (joined g.done) g.appended);
    answers = λ last more. rw (append_assoc xs ys more)
        (goes-whole from mid a b h0 h1 xs f last (ys ++ more) g.done (g.answers last more));
  }

  pub broken-then : (rest : Bool) → Broken mid b c h1 h2 (lines_by rest b.kept.items ys)
      → Broken from a c h0 h2 (lines_by rest a.kept.items (xs ++ ys))
  broken-then rest g = record {
    done = f.done ++ g.done;
    last = g.last;
    sent = g.sent;
    within = g.within;
    appended = rw (joined-append, append_assoc (joined f.done) (joined g.done) (take g.sent g.last))
        (appended-then (joined g.done ++ take g.sent g.last) g.appended);
    replies = rw length-append
        (standing-thrice a.written.replies b.written.replies c.written.replies (length f.done) (length g.done)
        (if g.sent == length g.last then 1 else 0) f.replies g.replies);
    written = rw (joined-append, length-append)
        (standing-thrice a.written.bytes b.written.bytes c.written.bytes (length (joined f.done))
        (length (joined g.done)) g.sent
        f.written g.written);
    answers =
        let both : length (f.done ++ g.done) + 1 ≡ (length g.done + 1)
        + length f.done = rw length-append (omega arith) in
        rw (append_assoc f.done g.done (g.last ∷ []))
        (f.goes rest ys (length g.done + 1) (length (f.done ++ g.done) + 1) (g.done ++ g.last ∷ []) both g.answers);
  }

  pub ended-then : Ended mid b h1 h2 → xs ≡ ys
      → (done : List (List ℕ)) × from (lines_by true a.kept.items ys) done × Appends h0 h2 (joined done)
  ended-then g e = (
    f.done ++ g.done,
    subst (λ (zs : List ℕ). from (lines_by true a.kept.items zs) (f.done ++ g.done)) (append-nil xs ∙ e)
        (goes-whole from mid a b h0 h1 xs f true [] g.done g.answers),
    rw joined-append (appended-then (joined g.done) g.appended),
  )

pub over-more : (from : Relation) (a : Server) (h0 h1 : Option (List ℕ)) (xs zs : List ℕ) → Over from a h0 h1 xs
    → Over from a h0 h1 (xs ++ zs)
over-more from a h0 h1 xs zs g = record {
  done = g.done;
  appended = g.appended;
  answers = λ last more. rw (append_assoc xs zs more) (g.answers last (zs ++ more));
}

module _ (from mid : Relation) (a b c : Server) (h0 h1 h2 : Option (List ℕ)) (bytes : List ℕ) (i : ℕ)
    (inside : i < length bytes)
    (f : Fed from mid a b h0 h1 (take i bytes)) where
  pub fed-in : (after : Relation) → Fed mid after b c h1 h2 (get_or bytes i 0 ∷ [])
      → Fed from after a c h0 h2 (take (i + 1) bytes)
  fed-in after g =
      subst (Fed from after a c h0 h2) (sym (take_more bytes i 0 inside))
      (fed-then from mid a b c h0 h1 h2 (take i bytes) (get_or bytes i 0 ∷ []) f after g)

  pub over-in : Over mid b h1 h2 (get_or bytes i 0 ∷ []) → Over from a h0 h2 bytes
  over-in g =
      subst (Over from a h0 h2) (cut-at bytes i inside)
      (over-more from a h0 h2 _ (drop (i + 1) bytes)
      (over-then from mid a b c h0 h1 h2 (take i bytes) (get_or bytes i 0 ∷ []) f g))

  pub broken-in : ((more : List ℕ) → Broken mid b c h1 h2 (lines_by false b.kept.items (get_or bytes i 0 ∷ more)))
      → Broken from a c h0 h2 (lines_by false a.kept.items bytes)
  broken-in g =
      let rest = drop (i + 1) bytes in
      let e : take i bytes ++ get_or bytes i 0 ∷ rest ≡ bytes =
      sym (append_assoc (take i bytes) (get_or bytes i 0 ∷ []) rest) ∙ cut-at bytes i inside in
      subst (λ (xs : List ℕ). Broken from a c h0 h2 (lines_by false a.kept.items xs)) e
      (broken-then from mid a b c h0 h1 h2 (take i bytes) (get_or bytes i 0 ∷ rest) f false (g rest))

-- ---- of a listener's lines

-- a line is longer than the longest
abbrev IsLong : List ℕ → Type 0
IsLong line = 4096 < length line

either-long : (t : Bool) (a b : List ℕ) → IsLong a → IsLong b → IsLong (cond t a b)
either-long true a b f g = f
either-long false a b f g = g

strip-long : (a : List ℕ) → 4098 ≤ length a → IsLong (strip_carriage_return a)
strip-long a h =
    let shorter : 4096 < length (take (length a - 1) a) = rw length-take (omega arith) in
    let whole : 4096 < length a = omega arith in
    either-long (slice_index a (length a - 1) == 13) _ _ shorter whole

more-long : (a : List ℕ) (b : ℕ) → 4098 ≤ length a → 4098 ≤ length (a ++ b ∷ [])
more-long a b h = rw length-append (omega arith)

no-newline : (last : Bool) (kept more : List ℕ) (byte : ℕ) → byte ≢ 10
    → lines_by last kept (byte ∷ more) ≡ lines_by last (kept ++ byte ∷ []) more
no-newline last kept more byte other = rw (ne_eqb byte 10 other) refl

module _ {L : Type 0} (answers : L → List ℕ → L → Type 0) (reply : L → List ℕ) (over : L → Bool) where
  module _ (alike : AreLongAlike answers) where
    -- of the first lines, the first may be another that is too long
    first-alike : (n : ℕ) (l : L) (a b : List ℕ) (lines replies : List (List ℕ)) → IsLong a → IsLong b
        → Answers answers reply over l (take n (a ∷ lines)) replies
        → Answers answers reply over l (take n (b ∷ lines)) replies
    first-alike zero l a b lines replies f g h = h
    first-alike (suc n) l a b lines [] f g h = h
    first-alike (suc n) l a b lines (r ∷ rs) f g h = (h.0, (alike l h.0 a b f g h.1.0, h.1.1), h.2)

    either : (t : Bool) (n : ℕ) (l : L) (rs A A' B B' : List (List ℕ))
        → (Answers answers reply over l (take n A) rs → Answers answers reply over l (take n B) rs)
        → (Answers answers reply over l (take n A') rs → Answers answers reply over l (take n B') rs)
        → Answers answers reply over l (take n (cond t A A')) rs
        → Answers answers reply over l (take n (cond t B B')) rs
    either true n l rs A A' B B' f g h = f h
    either false n l rs A A' B B' f g h = g h

    lines-alike : (last : Bool) (bytes a b : List ℕ) (n : ℕ) (l : L) (rs : List (List ℕ)) → 4098 ≤ length a
        → 4098 ≤ length b
        → Answers answers reply over l (take n (lines_by last a bytes)) rs
        → Answers answers reply over l (take n (lines_by last b bytes)) rs
    lines-alike false [] a b n l rs f g h = h
    lines-alike true [] a b n l rs f g h =
        let e : (length a == 0) ≡ false = ne_eqb _ _ (omega arith) in
        let e' : (length b == 0) ≡ false = ne_eqb _ _ (omega arith) in
        let whole : 4096 < length a = omega arith in
        let whole' : 4096 < length b = omega arith in
        let ha : Answers answers reply over l (take n (a ∷ [])) rs = subst
        (λ t. Answers answers reply over l (take n (cond (not t) (a ∷ []) [])) rs) e h in
        subst (λ t. Answers answers reply over l (take n (cond (not t) (b ∷ []) [])) rs) (sym e')
        (first-alike n l a b [] rs whole whole' ha)
    lines-alike last (x ∷ bytes) a b n l rs f g h =
        either (x == 10) n l rs _ _ _ _ (first-alike n l _ _ _ rs (strip-long a f) (strip-long b g))
        (lines-alike last bytes (a ++ x ∷ []) (b ++ x ∷ []) n l rs (more-long a x f) (more-long b x g)) h

    -- a byte of a line is kept
    pub keep-fed : (l : L) (old new : Server) (held : Option (List ℕ)) (byte : ℕ) → byte ≢ 10
        → new.written ≡ old.written
        → KeepsByte old.kept.items new.kept.items byte
        → Fed (Answers answers reply over l) (Answers answers reply over l) old new held held (byte ∷ [])
    keep-fed l old new held byte other counts kept = record {
      done = [];
      appended = appends-none held;
      replies = rw (counts, add-zero) refl;
      written = rw (counts, add-zero) refl;
      goes = λ last more n all rs e h.
          let from-none : all ≡ n + 0 = e in
          let same : n ≡ all = omega (arith, from-none) in
          let next : Answers answers reply over l (take n (lines_by last (old.kept.items ++ byte ∷ []) more))
          rs = ⊎_elim
          (λ e. subst (λ (ks : List ℕ). Answers answers reply over l (take n (lines_by last ks more)) rs) e h)
          (λ full. lines-alike last more old.kept.items (old.kept.items ++ byte ∷ []) n l rs full.0
          (more-long old.kept.items byte full.0)
          (subst (λ (ks : List ℕ). Answers answers reply over l (take n (lines_by last ks more)) rs) full.1 h))
          kept in
          subst (λ (k : ℕ). Answers answers reply over l (take k (lines_by last old.kept.items (byte ∷ more))) rs) same
          (rw (no-newline last old.kept.items more byte other) next);
    }

  -- a line was answered
  module _ (l m : L) (old : Server) (held held' : Option (List ℕ)) (line : List ℕ) (given : answers l line m) where
    -- by another name of it
    said : (other : List ℕ) → line ≡ other → answers l other m × (reply m ≡ reply m)
    said other whole = (subst (λ (xs : List ℕ). answers l xs m) whole given, refl)

    written-one : (counts : Written) → Answered old.written counts held held' (reply m)
        → Appends held held' (joined (reply m ∷ []))
    written-one counts a = subst (Appends held held') (sym (joined-one (reply m))) a.appended

    -- and more may come
    pub answer-fed : (new : Server) → Answered old.written new.written held held' (reply m)
        → line ≡ strip_carriage_return old.kept.items
        → over l ≡ false
        → new.kept.items ≡ [] → Fed (Answers answers reply over l) (Answers answers reply over m) old new held held'
        (10 ∷ [])
    answer-fed new a whole going empty = record {
      done = reply m ∷ [];
      appended = written-one new.written a;
      replies = let e = a.replies in grind (arith, e);
      written = let e = a.bytes in rw (joined-one (reply m)) (grind (arith, e));
      goes = λ last more n all rs e h.
          let from-one : all ≡ n + 1 = e in
          let one-more : suc n ≡ all = omega (arith, from-one) in
          subst (λ (k : ℕ). Answers answers reply over l
          (take k (strip_carriage_return old.kept.items ∷ lines_by last [] more))
          (reply m ∷ rs)) one-more (
            m,
            said (strip_carriage_return old.kept.items) whole,
            under-false (over l) _ _ going
                (subst (λ (ks : List ℕ). Answers answers reply over m (take n (lines_by last ks more)) rs) empty h),
          );
    }

    -- and it was the last that is answered
    pub answer-over : (counts : Written) → Answered old.written counts held held' (reply m)
        → line ≡ strip_carriage_return old.kept.items
        → over l ≡ true
        → Over (Answers answers reply over l) old held held' (10 ∷ [])
    answer-over counts a whole ends = record {
      done = reply m ∷ [];
      appended = written-one counts a;
      answers = λ last more. (m, said (strip_carriage_return old.kept.items) whole, under-true (over l) _ _ ends refl);
    }

    -- a last line with no newline
    pub answer-ended : (counts : Written) → Answered old.written counts held held' (reply m) → line ≡ old.kept.items
        → (length old.kept.items == 0) ≡ false
        → Ended (Answers answers reply over l) old held held'
    answer-ended counts a whole some = record {
      done = reply m ∷ [];
      appended = written-one counts a;
      answers =
          subst (λ t. Answers answers reply over l (cond (not t) (old.kept.items ∷ []) []) (reply m ∷ [])) (sym some)
          (m, said old.kept.items whole, under-both (over l) _ _ refl refl);
    }

    -- its reply was cut off
    pub answer-broken : (new : Server) → Cut old.written new.written held held' (reply m) → (other : List ℕ)
        → line ≡ other
        → (lines : List (List ℕ))
        → Broken (Answers answers reply over l) old new held held' (other ∷ lines)
    answer-broken new a other whole lines = record {
      done = [];
      last = reply m;
      sent = a.sent;
      within = a.within;
      appended = a.appended;
      replies = let e = a.replies in rw (a.replies, add-zero) (omega arith);
      written = let e = a.bytes in rw (a.bytes, add-zero) (omega arith);
      answers = (m, said other whole, under-both (over l) _ _ refl refl);
    }

    -- the reply to a last line with no newline was
    pub answer-broken-end : (new : Server) → Cut old.written new.written held held' (reply m) → line ≡ old.kept.items
        → (length old.kept.items == 0) ≡ false
        → Broken (Answers answers reply over l) old new held held' (lines_by true old.kept.items [])
    answer-broken-end new a whole some =
        subst (λ t. Broken (Answers answers reply over l) old new held held' (cond (not t) (old.kept.items ∷ []) []))
        (sym some)
        (answer-broken new a old.kept.items whole [])

    -- a newline was taken
    module _ (E : Type 0) (byte : ℕ) (newline : byte ≡ 10) (whole : line ≡ strip_carriage_return old.kept.items) where
      pub taken-fed : (new : Server) (ends : Bool) → ends ≡ over l
          → Answered old.written new.written held held' (reply m)
          → new.kept.items ≡ []
          → ◌≡◌ {A = Result Bool E} (Ok ends) (Ok false)
          → Fed (Answers answers reply over l) (Answers answers reply over m) old new held held' (byte ∷ [])
      taken-fed new ends says a empty e =
          subst (λ (b : ℕ). Fed (Answers answers reply over l) (Answers answers reply over m) old new held held'
          (b ∷ [])) (sym newline)
          (answer-fed new a whole (sym says ∙ ok_is E ends false e) empty)

      pub taken-over : (counts : Written) (ends : Bool) → ends ≡ over l
          → Answered old.written counts held held' (reply m)
          → ◌≡◌ {A = Result Bool E} (Ok ends) (Ok true) → Over (Answers answers reply over l) old held held' (byte ∷ [])
      taken-over counts ends says a e =
          subst (λ (b : ℕ). Over (Answers answers reply over l) old held held' (b ∷ [])) (sym newline)
          (answer-over counts a whole (sym says ∙ ok_is E ends true e))

      pub taken-broken : (new : Server) → Cut old.written new.written held held' (reply m) → (more : List ℕ)
          → Broken (Answers answers reply over l) old new held held' (lines_by false old.kept.items (byte ∷ more))
      taken-broken new a more =
          subst (λ (b : ℕ). Broken (Answers answers reply over l) old new held held'
          (lines_by false old.kept.items (b ∷ more)))
          (sym newline)
          (answer-broken new a (strip_carriage_return old.kept.items) whole (lines_by false [] more))

pub none-ended : (from : Relation) (old : Server) (held : Option (List ℕ)) → from [] []
    → (length old.kept.items == 0) ≡ true
    → Ended from old held held
none-ended from old held nothing none = record {
  done = [];
  appended = appends-none held;
  answers = subst (λ t. from (cond (not t) (old.kept.items ∷ []) []) []) (sym none) nothing;
}
