-- The steps of the mutator machine that write an object and publish it.
use Rattle.std.proofs.Common.{◌≡◌, ◌≢◌, refl, sym, ◌∙◌, ap, subst, ℕ, zero, suc, ◌+◌, ◌<◌, ◌≤◌, ◌⊎◌, inl, inr, arith, nat_eq, List, [], ◌∷◌, length, eq-eqb}
use Rattle.std.specs.Prelude.{slice_index, slice_set}
use Rattle.std.specs.List.{Contains, AllByRecursion}
use Rattle.std.proofs.lemmas.Bool.{cases_eq, cond-true, cond-false, ne_eqb}
use Rattle.std.proofs.lemmas.List.{get_or-set_same, get_or-set_other, length-set}
use Rattle.heap_layout.specs.Zones.{StartBits}
use Rattle.ideal_heap.specs.declared.command.Command.TheVariants as c
use Rattle.ideal_heap.specs.declared.reply.Reply.TheVariants as r
use Rattle.ideal_heap.specs.declared.name.Name.{Name}
use Rattle.ideal_heap.specs.Runs.{entry}
use Rattle.object_model.specs.Objects.{size_of}
use Rattle.object_model.specs.Graphs.{numbers_of}
use Rattle.mutator_core.specs.declared.state.Local.{Local}
use Rattle.mutator_core.specs.declared.state.LogEntry.{LogEntry}
use Rattle.mutator_core.specs.declared.state.Event.{Event}
use Rattle.mutator_core.specs.declared.state.Event.TheVariants as e
use Rattle.mutator_core.specs.Machine.{Epoch, Machine, next, answer_at, word_of_event, stored, found, local_after, birth_word, next_name, published, nothing_unpublished}
use Rattle.side_meta.specs.BitWords.{with_bit}
use Rattle.object_model.specs.BitWords.{bit_word, bit_place}
use Rattle.mutator_core.specs.Guards.{MayStep, MayBegin}
use Rattle.mutator_core.specs.Histories.{after, IsLog, history}

-- the words from this offset of the object on are its initial words, and its start bit is set; no other word changed
pub record Stores (b : ℕ) (old new : List ℕ) (n : Name) (a refs nums offset : ℕ) : Type 0 where
  pub len : length new ≡ length old
  pub own : (k : ℕ) → offset ≤ k → k < size_of refs nums → slice_index new (a + k) ≡ birth_word n refs nums k
  pub start : slice_index new (bit_word b StartBits a) ≡ with_bit (slice_index old (bit_word b StartBits a)) (bit_place b a)
  pub others : (i : ℕ) → (i < a + offset) ⊎ (a + size_of refs nums ≤ i) → i ≢ bit_word b StartBits a → slice_index new i ≡ slice_index old i

-- the mutator's state after it published an object at a
abbrev pub born : Local → ℕ → ℕ → ℕ → ℕ → Local
born l a d refs nums = record l {
  registers = slice_set l.registers d a;
  births = l.births + 1;
  made = (record { address = a; size = size_of refs nums }) ∷ l.made;
  unpublished = nothing_unpublished;
}

-- the mutator's state while it writes the object at a
abbrev pub writing : Local → ℕ → ℕ → ℕ → ℕ → Local
writing l a refs nums written = record l { unpublished = record { address = a; refs = refs; nums = nums; written = written } }

-- steps of mutator m, whose state is l, that store the words from the offset on and publish the object
pub record Publishes (p : Epoch) (h : Machine) (m : ℕ) (l : Local) (a d refs nums offset : ℕ) : Type 0 where
  pub more : List LogEntry
  pub log : IsLog p h more
  pub mine : AllByRecursion (λ x. x.mutator ≡ m) more
  pub own : (after p h more).locals m ≡ born l a d refs nums
  pub others : (n : ℕ) → n ≢ m → (after p h more).locals n ≡ h.locals n
  pub words : Stores p.before.blocks h.words (after p h more).words (next_name l) a refs nums offset
  pub history : history p h more ≡ entry m (c.New d refs nums) (r.New (next_name l)) ∷ []

module _ (p : Epoch) (m : ℕ) (known : Contains (numbers_of p.mutators) m) (a d refs nums : ℕ) (small : d < 16) (some : 0 < a)
    (before : bit_word p.before.blocks StartBits a < a) where
  abbrev entry-of : Machine → Event → LogEntry
  entry-of h x = record { mutator = m; event = x; answer = answer_at p h m x }

  own-next : (h : Machine) (x : Event) → (next p h m x).locals m ≡ local_after p (h.locals m) x (found p h m x)
  own-next h x = cond-true (nat_eq m m) _ _ (eq-eqb m m refl)

  other-next : (h : Machine) (x : Event) (n : ℕ) → n ≢ m → (next p h m x).locals n ≡ h.locals n
  other-next h x n other = cond-false (nat_eq n m) _ _ (ne_eqb n m other)

  -- the object has all its words
  last : (h : Machine) (l : Local) → h.locals m ≡ writing l a refs nums (size_of refs nums) → a < length h.words
      → Publishes p h m l a d refs nums (size_of refs nums)
  last h l is room = record {
    more = entry-of h (e.Perform (c.New d refs nums)) ∷ [];
    log = (known, subst (λ (q : Local). MayStep p q (e.Perform (c.New d refs nums))) (sym is) (small, some, refl), refl, tt);
    mine = (refl, tt);
    own = own-next h (e.Perform (c.New d refs nums)) ∙ ap (λ (q : Local). published q d refs nums) is;
    others = other-next h (e.Perform (c.New d refs nums));
    words = subst (λ (q : Local). Stores p.before.blocks h.words (slice_set h.words (word_of_event p q (e.Perform (c.New d refs nums))) (stored p q (e.Perform (c.New d refs nums)) (slice_index h.words (word_of_event p q (e.Perform (c.New d refs nums)))))) (next_name l) a refs nums (size_of refs nums)) (sym is) stores;
    history = ap (λ (q : Local). entry m (c.New d refs nums) (r.New (next_name q)) ∷ []) is;
  }
    where
      stores : Stores p.before.blocks h.words (slice_set h.words (bit_word p.before.blocks StartBits a) (with_bit (slice_index h.words (bit_word p.before.blocks StartBits a)) (bit_place p.before.blocks a))) (next_name l) a refs nums (size_of refs nums)
      stores = record {
        len = length-set h.words (bit_word p.before.blocks StartBits a) _;
        own = λ k from below. absurd (omega arith);
        start = get_or-set_same h.words (bit_word p.before.blocks StartBits a) _ 0 (omega arith);
        others = λ i outside other. get_or-set_other h.words (bit_word p.before.blocks StartBits a) i _ 0 other;
      }

  -- one word more
  one : (h : Machine) (l : Local) (offset : ℕ) → MayStep p (h.locals m) (e.Initialize a refs nums offset) → next_name (h.locals m) ≡ next_name l → offset < size_of refs nums
      → a + size_of refs nums ≤ length h.words
      → Publishes p (next p h m (e.Initialize a refs nums offset)) m l a d refs nums (offset + 1) → Publishes p h m l a d refs nums offset
  one h l offset may named less room rest = record {
    more = entry-of h (e.Initialize a refs nums offset) ∷ rest.more;
    log = (known, may, refl, rest.log);
    mine = (refl, rest.mine);
    own = rest.own;
    others = λ n other. rest.others n other ∙ other-next h (e.Initialize a refs nums offset) n other;
    words = record {
      len = rest.words.len ∙ length-set h.words (a + offset) _;
      own = λ k from below. elim (cases_eq k offset) as (λ _. slice_index (after p (next p h m (e.Initialize a refs nums offset)) rest.more).words (a + k) ≡ birth_word (next_name l) refs nums k) [
        | inl same ↦ subst (λ (j : ℕ). slice_index (after p (next p h m (e.Initialize a refs nums offset)) rest.more).words (a + j) ≡ birth_word (next_name l) refs nums j) (sym same)
            (rest.words.others (a + offset) (inl (omega arith)) (λ same. omega arith)
            ∙ get_or-set_same h.words (a + offset) _ 0 (omega arith) ∙ ap (λ (n : Name). birth_word n refs nums offset) named)
        | inr differ ↦ rest.words.own k (omega arith) below
      ];
      start = rest.words.start ∙ ap (λ (v : ℕ). with_bit v (bit_place p.before.blocks a)) (get_or-set_other h.words (a + offset) (bit_word p.before.blocks StartBits a) _ 0 (λ same. omega arith));
      others = λ i outside other. rest.words.others i (elim outside as (λ _. (i < a + (offset + 1)) ⊎ (a + size_of refs nums ≤ i)) [ inl under ↦ inl (omega arith) | inr beyond ↦ inr beyond ]) other
          ∙ get_or-set_other h.words (a + offset) i _ 0 (λ same. elim outside as (λ _. ⊥) [ inl under ↦ omega arith | inr beyond ↦ omega arith ]);
    };
    history = rest.history;
  }

  -- the words from an offset on
  rest-of : (count : ℕ) (h : Machine) (l : Local) (offset : ℕ) → offset + count ≡ size_of refs nums → 0 < offset → h.locals m ≡ writing l a refs nums offset
      → a + size_of refs nums ≤ length h.words → Publishes p h m l a d refs nums offset
  rest-of zero h l offset total begun is room =
      let same : offset ≡ size_of refs nums = omega arith in
      subst (Publishes p h m l a d refs nums) (sym same) (last h l (subst (λ (k : ℕ). h.locals m ≡ writing l a refs nums k) same is) (omega arith))
  rest-of (suc count) h l offset total begun is room =
      let less : offset < size_of refs nums = omega arith in
      one h l offset (less, inr (begun, some, ap (λ (q : Local). q.unpublished) is)) (ap next_name is) less room
      (rest-of count (next p h m (e.Initialize a refs nums offset)) l (offset + 1) (omega arith) (omega arith)
      (own-next h (e.Initialize a refs nums offset) ∙ ap (λ (q : Local). writing q a refs nums (offset + 1)) is)
      (subst (λ (n : ℕ). a + size_of refs nums ≤ n) (sym (length-set h.words (a + offset) _)) room))

  pub publishes : (h : Machine) → MayBegin p (h.locals m) a refs nums → a + size_of refs nums ≤ length h.words → Publishes p h m (h.locals m) a d refs nums 0
  publishes h may room =
      let less : 0 < size_of refs nums = omega arith in
      one h (h.locals m) 0 (less, inl (refl, may)) refl less room
      (rest-of (2 + refs + nums) (next p h m (e.Initialize a refs nums 0)) (h.locals m) 1 (omega arith) (omega arith)
      (own-next h (e.Initialize a refs nums 0))
      (subst (λ (n : ℕ). a + size_of refs nums ≤ n) (sym (length-set h.words (a + 0) _)) room))
