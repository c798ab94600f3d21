-- Tickets are counted, and so are the Free blocks that were taken.
use Rattle.std.proofs.Common.{◌≡◌, ◌≢◌, refl, sym, ◌∙◌, ap, subst, ℕ, ◌+◌, ◌%◌, ◌^◌, ◌<◌, ◌≤◌, ◌⊎◌, inl, inr, arith, ◌&&◌, Bool, true, false, List, [], ◌∷◌, length, slice_index, slice_set, nat_eq, nat_lt, eq-eqb}
use Rattle.std.specs.Prelude.{if◌then◌else◌, Option, Some, None, sum_by, count_by, unwrap_or}
use Rattle.std.specs.List.{Contains, range_with_len}
use Rattle.std.proofs.Math.Path.{fun_ext}
use Rattle.std.proofs.lemmas.Bool.{cases_eq, cases_lt, cond-true, cond-false, ne_eqb, lt-ltb, le-ltb, false_from_ne_true}
use Rattle.std.proofs.lemmas.Option.{none-some}
use Rattle.std.proofs.lemmas.List.Sums.{sum_by-cons}
use Rattle.std.proofs.lemmas.List.{get_or-set_same, length-map}
use Rattle.heap_layout.specs.Zones.{BlockWords, first, row_words}
use Rattle.heap_layout.specs.Blocks.{kind_code}
use Rattle.heap_layout.specs.declared.block.Kind.TheVariants as kinds
use Rattle.heap_layout.proofs.BlockLemmas.{code_parts, valid_most, kind_code_most}
use Rattle.ideal_heap.specs.declared.command.Command.TheVariants as c
use Rattle.ideal_heap.specs.Ideal.{IdealHeap}
use Rattle.object_model.specs.Objects.{HeapState, with_words, word_at, block_word, has_kind, HasKind}
use Rattle.object_model.specs.Graphs.{AreDifferent, numbers_of}
use Rattle.object_model.proofs.Blocks as blocks
use Rattle.object_model.proofs.Blocks.{set_block}
use Rattle.object_model.proofs.Frames.{has_kind-same}
use Rattle.object_model.proofs.OneKind.{kind-from, one-kind}
use Rattle.sessions.specs.Fitting.{free_of, allowance_of}
use Rattle.mutator_core.specs.declared.state.Local.{Local}
use Rattle.mutator_core.specs.declared.state.Event.{Event}
use Rattle.mutator_core.specs.declared.state.Event.TheVariants as e
use Rattle.mutator_core.specs.declared.state.LogEntry.{LogEntry}
use Rattle.mutator_core.specs.Machine.{Epoch, Machine, heap_in, next, found, found_code, owned_code, local_after, taken, first_local_of}
use Rattle.mutator_core.specs.Guards.{MayStep, MayTake}
use Rattle.mutator_core.specs.Histories.{after, IsLog}
use Rattle.mutator_core.specs.Epochs.{EpochMayBegin}
use Rattle.mutator_core.specs.Tickets.{TicketsAreCounted, tickets_in, tickets_below, taken_by, drawn_by, allowed_to, smaller}
use Rattle.mutator_core.proofs.Lists.{with_local, local-cases}
use Rattle.mutator_core.proofs.Fills.{fills-some}
use Rattle.mutator_core.proofs.Spots.{Spot, spot, draws_ticket, takes_block}
use Rattle.mutator_core.proofs.Taken.{taken-not-free}
use Rattle.mutator_core.proofs.Sums.{sum-same, sum-more, sum-change, range-differs, range-has, allowance-most}
use Rattle.mutator_core.proofs.Beginnings.{first-states}
use Rattle.mutator_core.proofs.Law.{Goes, goes}
use Rattle.mutator_core.proofs.Moments.{Holds, same-words}

granted-same : (p : Epoch) (l : Local) (x : Event) (n : ℕ) → draws_ticket x ≡ false → takes_block x ≡ false → ((local_after p l x n).granted ≡ l.granted) × ((local_after p l x n).ticket ≡ l.ticket)
granted-same p l (e.Perform (c.New d refs nums)) n draws takes = (refl, refl)
granted-same p l (e.Perform (c.Get d s i)) n draws takes = (refl, refl)
granted-same p l (e.Perform (c.Put s i v)) n draws takes = (refl, refl)
granted-same p l (e.Perform (c.Read s j)) n draws takes = (refl, refl)
granted-same p l (e.Perform (c.Write s j v)) n draws takes = (refl, refl)
granted-same p l (e.Perform (c.Add s j v)) n draws takes = (refl, refl)
granted-same p l (e.Perform (c.Swap s j was v)) n draws takes = (refl, refl)
granted-same p l (e.Perform (c.Move d s)) n draws takes = (refl, refl)
granted-same p l (e.Perform (c.DropReg s)) n draws takes = (refl, refl)
granted-same p l (e.Perform (c.Load d g)) n draws takes = (refl, refl)
granted-same p l (e.Perform (c.Share g s)) n draws takes = (refl, refl)
granted-same p l (e.Perform (c.Pin s)) n draws takes = (refl, refl)
granted-same p l (e.Perform (c.Unpin s)) n draws takes = (refl, refl)
granted-same p l (e.Perform c.Gc) n draws takes = (refl, refl)
granted-same p l (e.Perform c.Meet) n draws takes = (refl, refl)
granted-same p l (e.Miss command) n draws takes = (refl, refl)
granted-same p l e.Poll n draws takes = (refl, refl)
granted-same p l (e.LoadName s) n draws takes = (refl, refl)
granted-same p l (e.LoadShape s) n draws takes = (refl, refl)
granted-same p l (e.LoadCollector s) n draws takes = (refl, refl)
granted-same p l (e.LoadShapeAt a) n draws takes = (refl, refl)
granted-same p l (e.LoadBlock k) n draws takes = (refl, refl)
granted-same p l (e.LoadSide k) n draws takes = (refl, refl)
granted-same p l (e.LoadUnlog s) n draws takes = (refl, refl)
granted-same p l e.Raise n draws takes = (refl, refl)
granted-same p l (e.ClearUnlog s) n draws takes = (refl, refl)
granted-same p l (e.Initialize a refs nums k) n draws takes = (refl, refl)
granted-same p l e.DrawTicket n draws takes = absurd (let wrong : true ≡ false = draws in cc)
granted-same p l (e.TakeBlock k class free) n draws takes = absurd (let wrong : true ≡ false = takes in cc)

abbrev one_if : Bool → ℕ
one_if b = if b then 1 else 0

-- the smaller number
smaller-left : (a b : ℕ) → a < b → smaller a b ≡ a
smaller-left a b less = cond-true (nat_lt a b) a b (lt-ltb a b less)

smaller-right : (a b : ℕ) → b ≤ a → smaller a b ≡ b
smaller-right a b most = cond-false (nat_lt a b) a b (le-ltb a b most)

pub smaller-most : (a b : ℕ) → smaller a b ≤ b
smaller-most a b = elim (cases_lt a b) as (λ _. smaller a b ≤ b) [
  | inl less ↦ (let e : smaller a b ≡ a = smaller-left a b less in omega arith)
  | inr most ↦ (let e : smaller a b ≡ b = smaller-right a b most in omega arith)
]

below-least : (most : ℕ) (o : Option ℕ) → tickets_in o ≤ tickets_below most o + 1
below-least most None = omega arith
below-least most (Some t) = omega arith

module _ (p : Epoch) (ready : EpochMayBegin p) (differ : AreDifferent (numbers_of p.mutators)) (s : HeapState) (locals : ℕ → Local) (m : ℕ) (known : Contains (numbers_of p.mutators) m) (counted : TicketsAreCounted p s locals) where
  abbrev most : ℕ
  most = allowance_of p.rules.reserve p.before

  abbrev ks : List ℕ
  ks = numbers_of p.mutators

  -- the sum over the mutators, if the state of m changes
  changed : (f : Local → ℕ) (l : Local) → sum_by (λ k. f (with_local locals m l k)) ks + f (locals m) ≡ sum_by (λ k. f (locals k)) ks + f l
  changed f l =
      let own : f (with_local locals m l m) ≡ f l = local-cases (λ q x. q ≡ m → f x ≡ f l) locals m l m (λ e same. refl) (λ other same. absurd (other same)) refl in
      let sums : sum_by (λ k. f (with_local locals m l k)) ks + f (locals m) ≡ sum_by (λ k. f (locals k)) ks + f (with_local locals m l m) =
      sum-change (λ k. f (locals k)) (λ k. f (with_local locals m l k)) m (λ k other. local-cases (λ q x. q ≢ m → f x ≡ f (locals q)) locals m l k (λ e away. absurd (away refl)) (λ away again. refl) other) ks differ known in
      omega arith

  -- unused tickets are below the new budget word, and differ, if m's is its old one or none
  kept-below : (b : ℕ) (l : Local) → word_at s 1 ≤ b → ((t : ℕ) → l.ticket ≡ Some t → (locals m).ticket ≡ Some t) → (q t : ℕ) → (with_local locals m l q).ticket ≡ Some t → t < b
  kept-below b l most had q t = local-cases (λ j x. x.ticket ≡ Some t → t < b) locals m l q
      (λ e has. let less : t < word_at s 1 = counted.drawn m t (had t has) in omega arith) (λ other has. let less : t < word_at s 1 = counted.drawn q t has in omega arith)

  kept-apart : (l : Local) → ((t : ℕ) → l.ticket ≡ Some t → (locals m).ticket ≡ Some t) → (a b t : ℕ) → (with_local locals m l a).ticket ≡ Some t → (with_local locals m l b).ticket ≡ Some t → a ≡ b
  kept-apart l had a b t mine theirs = counted.apart a b t (before a mine) (before b theirs)
    where
      before : (q : ℕ) → (with_local locals m l q).ticket ≡ Some t → (locals q).ticket ≡ Some t
      before q = local-cases (λ j x. x.ticket ≡ Some t → (locals j).ticket ≡ Some t) locals m l q (λ e. had t) (λ other has. has)

  -- neither tickets nor taken blocks change
  unchanged : (w : List ℕ) (l : Local) → slice_index w 1 ≡ word_at s 1 → free_of (with_words s w) ≡ free_of s → l.granted ≡ (locals m).granted → l.ticket ≡ (locals m).ticket → TicketsAreCounted p (with_words s w) (with_local locals m l)
  unchanged w l budget free granted ticket =
      let same_taken : taken_by l ≡ taken_by (locals m) = ap length granted in
      let same_drawn : drawn_by l ≡ drawn_by (locals m) = ap (λ g. length g + tickets_in l.ticket) granted ∙ ap (λ t. taken_by (locals m) + tickets_in t) ticket in
      let same_allowed : allowed_to most l ≡ allowed_to most (locals m) = ap (λ g. length g + tickets_below most l.ticket) granted ∙ ap (λ t. taken_by (locals m) + tickets_below most t) ticket in
      let drawn = changed drawn_by l in let allowed = changed (allowed_to most) l in let blocks = changed taken_by l in
      let a = counted.budget in let b = counted.allowed in let d = counted.free in
      record {
        budget = (let e : sum_by (λ k. drawn_by (with_local locals m l k)) ks ≡ sum_by (λ k. drawn_by (locals k)) ks = omega (arith, drawn, same_drawn) in e ∙ a ∙ sym budget);
        allowed = (let e : sum_by (λ k. allowed_to most (with_local locals m l k)) ks ≡ sum_by (λ k. allowed_to most (locals k)) ks = omega (arith, allowed, same_allowed) in e ∙ b ∙ ap (λ x. smaller x most) (sym budget));
        free = (let e : sum_by (λ k. taken_by (with_local locals m l k)) ks ≡ sum_by (λ k. taken_by (locals k)) ks = omega (arith, blocks, same_taken) in
            d ∙ ap (λ x. x + sum_by (λ k. taken_by (locals k)) ks) (sym free) ∙ ap (λ x. free_of (with_words s w) + x) (sym e));
        drawn = kept-below (slice_index w 1) l (omega arith) (λ t has. sym ticket ∙ has);
        apart = kept-apart l (λ t has. sym ticket ∙ has);
      }

  -- the budget word does not overflow
  few-drawn : word_at s 1 ≤ most + 16
  few-drawn =
      let less : sum_by (λ k. drawn_by (locals k)) ks ≤ sum_by (λ k. allowed_to most (locals k)) ks + length ks =
      sum-more (λ k. drawn_by (locals k)) (λ k. allowed_to most (locals k)) (λ k. let l = below-least most (locals k).ticket in omega arith) ks in
      let many : length ks ≡ length p.mutators = length-map p.mutators (λ x. x.number) in
      let few : length p.mutators ≤ 16 = ready.few in
      let bound : smaller (word_at s 1) most ≤ most = smaller-most (word_at s 1) most in
      let a = counted.budget in let b = counted.allowed in
      omega arith

  -- a ticket is drawn
  drew : (w : List ℕ) (l : Local) → slice_index w 1 ≡ word_at s 1 + 1 → free_of (with_words s w) ≡ free_of s → l.granted ≡ (locals m).granted → (locals m).ticket ≡ None → l.ticket ≡ Some (word_at s 1)
      → TicketsAreCounted p (with_words s w) (with_local locals m l)
  drew w l budget free granted before ticket =
      let n : ℕ = word_at s 1 in
      let same_taken : taken_by l ≡ taken_by (locals m) = ap length granted in
      let old_drawn : drawn_by (locals m) ≡ taken_by (locals m) = ap (λ t. taken_by (locals m) + tickets_in t) before ∙ (omega arith) in
      let new_drawn : drawn_by l ≡ taken_by l + 1 = ap (λ t. taken_by l + tickets_in t) ticket in
      let old_allowed : allowed_to most (locals m) ≡ taken_by (locals m) = ap (λ t. taken_by (locals m) + tickets_below most t) before ∙ (omega arith) in
      let new_allowed : allowed_to most l ≡ taken_by l + (if nat_lt n most then 1 else 0) = ap (λ t. taken_by l + tickets_below most t) ticket in
      let drawn = changed drawn_by l in let allowed = changed (allowed_to most) l in let blocks = changed taken_by l in
      let a = counted.budget in let b = counted.allowed in let d = counted.free in
      record {
        budget = (let e : sum_by (λ k. drawn_by (with_local locals m l k)) ks ≡ n + 1 = omega (arith, drawn, same_taken, old_drawn, new_drawn, a) in e ∙ sym budget);
        allowed = elim (cases_lt n most) as (λ _. sum_by (λ k. allowed_to most (with_local locals m l k)) ks ≡ smaller (slice_index w 1) most) [
          | inl less ↦
              (let one : (if nat_lt n most then 1 else 0) ≡ 1 = cond-true {A = ℕ} (nat_lt n most) 1 0 (lt-ltb n most less) in
              let old : smaller n most ≡ n = smaller-left n most less in
              let sum : sum_by (λ k. allowed_to most (with_local locals m l k)) ks ≡ n + 1 = omega (arith, allowed, same_taken, old_allowed, new_allowed, one, old, b) in
              sum ∙ sym (ap (λ x. smaller x most) budget ∙ more n less))
          | inr past ↦
              (let none : (if nat_lt n most then 1 else 0) ≡ 0 = cond-false {A = ℕ} (nat_lt n most) 1 0 (le-ltb n most past) in
              let old : smaller n most ≡ most = smaller-right n most past in
              let sum : sum_by (λ k. allowed_to most (with_local locals m l k)) ks ≡ most = omega (arith, allowed, same_taken, old_allowed, new_allowed, none, old, b) in
              sum ∙ sym (ap (λ x. smaller x most) budget ∙ smaller-right (n + 1) most (omega arith)))
        ];
        free = (let e : sum_by (λ k. taken_by (with_local locals m l k)) ks ≡ sum_by (λ k. taken_by (locals k)) ks = omega (arith, blocks, same_taken) in
            d ∙ ap (λ x. x + sum_by (λ k. taken_by (locals k)) ks) (sym free) ∙ ap (λ x. free_of (with_words s w) + x) (sym e));
        drawn = λ q t. local-cases (λ j x. x.ticket ≡ Some t → t < slice_index w 1) locals m l q
            (λ e has. let same : word_at s 1 ≡ t = own t has in omega arith) (λ other has. let less : t < word_at s 1 = counted.drawn q t has in omega arith);
        apart = λ a c t mine theirs. elim (who a t mine) as (λ _. a ≡ c) [
          | inl here ↦ elim (who c t theirs) as (λ _. a ≡ c) [
            | inl too ↦ here.0 ∙ sym too.0
            | inr there ↦ absurd (let same : word_at s 1 ≡ t = here.1 in let less : t < word_at s 1 = counted.drawn c t there in omega arith)
          ]
          | inr there ↦ elim (who c t theirs) as (λ _. a ≡ c) [
            | inl here ↦ absurd (let same : word_at s 1 ≡ t = here.1 in let less : t < word_at s 1 = counted.drawn a t there in omega arith)
            | inr too ↦ counted.apart a c t there too
          ]
        ];
      }
    where
      own : (t : ℕ) → l.ticket ≡ Some t → word_at s 1 ≡ t
      own t has = let same : Some (word_at s 1) ≡ Some t = sym ticket ∙ has in ap (λ o. unwrap_or o 0) same

      who : (q t : ℕ) → (with_local locals m l q).ticket ≡ Some t → ((q ≡ m) × (word_at s 1 ≡ t)) ⊎ ((locals q).ticket ≡ Some t)
      who q t = local-cases (λ j x. x.ticket ≡ Some t → ((j ≡ m) × (word_at s 1 ≡ t)) ⊎ ((locals j).ticket ≡ Some t)) locals m l q (λ e has. inl (refl, own t has)) (λ other has. inr has)

      more : (n : ℕ) → n < most → smaller (n + 1) most ≡ n + 1
      more n less = elim (cases_lt (n + 1) most) as (λ _. smaller (n + 1) most ≡ n + 1) [
        | inl again ↦ smaller-left (n + 1) most again
        | inr last ↦ smaller-right (n + 1) most last ∙ (omega arith)
      ]

  -- a Free block is taken with a ticket
  used-ticket : (w : List ℕ) (l : Local) (k t : ℕ) → slice_index w 1 ≡ word_at s 1 → free_of s ≡ free_of (with_words s w) + 1 → l.granted ≡ k ∷ (locals m).granted → (locals m).ticket ≡ Some t → t < most → l.ticket ≡ None
      → TicketsAreCounted p (with_words s w) (with_local locals m l)
  used-ticket w l k t budget free granted before less ticket =
      let more_taken : taken_by l ≡ taken_by (locals m) + 1 = ap length granted ∙ (omega arith) in
      let old_drawn : drawn_by (locals m) ≡ taken_by (locals m) + 1 = ap (λ o. taken_by (locals m) + tickets_in o) before in
      let new_drawn : drawn_by l ≡ taken_by l = ap (λ o. taken_by l + tickets_in o) ticket ∙ (omega arith) in
      let old_allowed : allowed_to most (locals m) ≡ taken_by (locals m) + 1 = ap (λ o. taken_by (locals m) + tickets_below most o) before
      ∙ ap (λ x. taken_by (locals m) + x) (cond-true {A = ℕ} (nat_lt t most) 1 0 (lt-ltb t most less)) in
      let new_allowed : allowed_to most l ≡ taken_by l = ap (λ o. taken_by l + tickets_below most o) ticket ∙ (omega arith) in
      let drawn = changed drawn_by l in let allowed = changed (allowed_to most) l in let blocks = changed taken_by l in
      let a = counted.budget in let b = counted.allowed in let d = counted.free in
      record {
        budget = (let e : sum_by (λ q. drawn_by (with_local locals m l q)) ks ≡ sum_by (λ q. drawn_by (locals q)) ks = omega (arith, drawn, more_taken, old_drawn, new_drawn) in e ∙ a ∙ sym budget);
        allowed = (let e : sum_by (λ q. allowed_to most (with_local locals m l q)) ks ≡ sum_by (λ q. allowed_to most (locals q)) ks = omega (arith, allowed, more_taken, old_allowed, new_allowed) in
            e ∙ b ∙ ap (λ x. smaller x most) (sym budget));
        free = omega (arith, d, free, blocks, more_taken);
        drawn = kept-below (slice_index w 1) l (omega arith) (λ t has. absurd (none-some t (sym ticket ∙ has)));
        apart = kept-apart l (λ t has. absurd (none-some t (sym ticket ∙ has)));
      }

module _ (p : Epoch) (ready : EpochMayBegin p) (differ : AreDifferent (numbers_of p.mutators)) (h : Machine) (i : IdealHeap) (set : ℕ → Type 0) (now : Holds p h i set) (m : ℕ) (known : Contains (numbers_of p.mutators) m)
    (counted : TicketsAreCounted p (heap_in p h) h.locals) where
  abbrev heap : HeapState
  heap = heap_in p h

  abbrev own : Local
  own = h.locals m

  -- the count of Free blocks, if block words are the same
  free-same : (w : List ℕ) → ((k : ℕ) → k < heap.blocks → block_word (with_words heap w) k ≡ block_word heap k) → free_of (with_words heap w) ≡ free_of heap
  free-same w same = ap (λ f. count_by f (range_with_len 0 heap.blocks)) (fun_ext (λ k. has_kind-same heap w same k kinds.Free))

  steady : (x : Event) → (may : MayStep p own x) → draws_ticket x ≡ false → takes_block x ≡ false → TicketsAreCounted p (heap_in p (next p h m x)) (next p h m x).locals
  steady x may draws takes =
      let at : Spot heap (next p h m x).words x = spot p ready h i set now m known x may in
      let same = granted-same p own x (found p h m x) draws takes in
      unchanged p ready differ heap h.locals m known counted (next p h m x).words (local_after p own x (found p h m x)) (at.tickets draws) (free-same (next p h m x).words (at.blocks takes)) same.0 same.1

  draw-counted : (may : MayStep p own e.DrawTicket) → TicketsAreCounted p (heap_in p (next p h m e.DrawTicket)) (next p h m e.DrawTicket).locals
  draw-counted may =
      let at : Spot heap (next p h m e.DrawTicket).words e.DrawTicket = spot p ready h i set now m known e.DrawTicket may in
      let n : ℕ = word_at heap 1 in
      let few : n ≤ allowance_of p.rules.reserve p.before + 16 = few-drawn p ready differ heap h.locals m known counted in
      let less : allowance_of p.rules.reserve p.before ≤ p.before.blocks = allowance-most p.rules.reserve p.before in
      let blocks : p.before.blocks ≤ 1024 = now.models.order.row.most in
      let some : 4 ≤ p.before.blocks = now.models.order.row.least in
      let many : length h.words ≡ row_words p.before.blocks = now.models.order.row.extent in
      let word : slice_index (next p h m e.DrawTicket).words 1 ≡ (n + 1) % 2 ^ 64 = get_or-set_same h.words 1 ((n + 1) % 2 ^ 64) 0 (omega arith) in
      let whole : (n + 1) % 2 ^ 64 ≡ n + 1 = omega arith in
      drew p ready differ heap h.locals m known counted (next p h m e.DrawTicket).words (record own { ticket = Some n }) (word ∙ whole) (free-same (next p h m e.DrawTicket).words (at.blocks refl)) refl may refl

  module _ (k class : ℕ) (free : Bool) (may : MayTake p own k class free) where
    abbrev v : ℕ
    v = owned_code p own class

    abbrev w : List ℕ
    w = set_block heap k v

    there : k < heap.blocks
    there = may.0

    -- the word is that of a block that mutators fill, so the block is not Free
    not-free : has_kind (with_words heap w) k kinds.Free ≡ false
    not-free = false_from_ne_true (has_kind (with_words heap w) k kinds.Free) (taken-not-free p ready heap k class own.number there now.models.order.row.extent may.1)

    counts : free_of (with_words heap w) + one_if (has_kind heap k kinds.Free) ≡ free_of heap
    counts =
        let sums : free_of (with_words heap w) + one_if (has_kind heap k kinds.Free) ≡ free_of heap + one_if (has_kind (with_words heap w) k kinds.Free) =
        sum-change (λ j. one_if (has_kind heap j kinds.Free)) (λ j. one_if (has_kind (with_words heap w) j kinds.Free)) k
        (λ j other. ap (λ x. one_if (nat_lt j heap.blocks && nat_eq (x % 256) 0)) (blocks.block-other heap k v there j other)) (range_with_len 0 heap.blocks) (range-differs heap.blocks) (range-has heap.blocks k there) in
        let none : one_if (has_kind (with_words heap w) k kinds.Free) ≡ 0 = ap one_if not-free in
        omega arith

    budget-same : slice_index w 1 ≡ word_at heap 1
    budget-same = blocks.word-other heap k v there 1 (λ e. omega arith)

    abbrev seen : Local
    seen = record own { blocks = (record { at = k; word = block_word heap k }) ∷ own.blocks }

    abbrev Result : Bool → Type 0
    Result b = TicketsAreCounted p (with_words heap (slice_set h.words (first heap.blocks BlockWords + k) (if b then v else block_word heap k))) (with_local h.locals m (if b then taken p own k class free else seen))

    lost : Result false
    lost = subst (λ (ws : List ℕ). TicketsAreCounted p (with_words heap ws) (with_local h.locals m seen)) (sym (same-words h.words (first heap.blocks BlockWords + k)))
        (unchanged p ready differ heap h.locals m known counted h.words seen refl refl refl refl)

  -- the block word found was the expected one
  took : (k class : ℕ) (free : Bool) (may : MayTake p own k class free) → block_word heap k ≡ found_code p class free → Result k class free may true
  took k class true may e =
      let ticket = may.2 refl in
      let is : has_kind heap k kinds.Free ≡ true = kind-from heap k kinds.Free may.0 (ap (λ x. x % 256) e) in
      let one : one_if (has_kind heap k kinds.Free) ≡ 1 = ap one_if is in
      let sum = counts k class true may in
      used-ticket p ready differ heap h.locals m known counted (w k class true may) (taken p own k class true) k ticket.0 (budget-same k class true may) (omega arith) refl ticket.1 ticket.2 refl
  took k class false may e =
      let few = valid_most p.rules.fill class own.number may.1 in
      let parts = code_parts (kind_code p.rules.fill) class 0 (block_word heap k) (kind_code_most p.rules.fill) few.0 (sym e) in
      let fill : HasKind heap k p.rules.fill = kind-from heap k p.rules.fill may.0 parts.0 in
      let used : has_kind heap k kinds.Free ≡ false = false_from_ne_true (has_kind heap k kinds.Free) (λ is. fills-some p.rules.fill ready.fills (one-kind heap k p.rules.fill kinds.Free fill is)) in
      let none : one_if (has_kind heap k kinds.Free) ≡ 0 = ap one_if used in
      let sum = counts k class false may in
      unchanged p ready differ heap h.locals m known counted (w k class false may) (taken p own k class false) (budget-same k class false may) (omega arith) refl refl

  take-counted : (k class : ℕ) (free : Bool) (may : MayTake p own k class free) → TicketsAreCounted p (heap_in p (next p h m (e.TakeBlock k class free))) (next p h m (e.TakeBlock k class free)).locals
  take-counted k class free may = elim (cases_eq (block_word heap k) (found_code p class free)) as (λ _. Result k class free may (nat_eq (block_word heap k) (found_code p class free))) [
    | inl e ↦ subst (Result k class free may) (sym (eq-eqb (block_word heap k) (found_code p class free) e)) (took k class free may e)
    | inr other ↦ subst (Result k class free may) (sym (ne_eqb (block_word heap k) (found_code p class free) other)) (lost k class free may)
  ]

  pub counted-next : (x : Event) → MayStep p own x → TicketsAreCounted p (heap_in p (next p h m x)) (next p h m x).locals
  counted-next (e.Perform command) may = steady (e.Perform command) may refl refl
  counted-next (e.Miss command) may = steady (e.Miss command) may refl refl
  counted-next e.Poll may = steady e.Poll may refl refl
  counted-next (e.LoadName q) may = steady (e.LoadName q) may refl refl
  counted-next (e.LoadShape q) may = steady (e.LoadShape q) may refl refl
  counted-next (e.LoadCollector q) may = steady (e.LoadCollector q) may refl refl
  counted-next (e.LoadShapeAt a) may = steady (e.LoadShapeAt a) may refl refl
  counted-next (e.LoadBlock k) may = steady (e.LoadBlock k) may refl refl
  counted-next (e.LoadSide k) may = steady (e.LoadSide k) may refl refl
  counted-next (e.LoadUnlog q) may = steady (e.LoadUnlog q) may refl refl
  counted-next e.Raise may = steady e.Raise may refl refl
  counted-next (e.ClearUnlog q) may = steady (e.ClearUnlog q) may refl refl
  counted-next (e.Initialize a refs nums k) may = steady (e.Initialize a refs nums k) may refl refl
  counted-next e.DrawTicket may = draw-counted may
  counted-next (e.TakeBlock k class free) may = take-counted k class free may

-- after each step of a log
pub counted-ends : (p : Epoch) → EpochMayBegin p → AreDifferent (numbers_of p.mutators) → (log : List LogEntry) (h : Machine) (i : IdealHeap) (set : ℕ → Type 0) → Holds p h i set
    → TicketsAreCounted p (heap_in p h) h.locals → IsLog p h log → TicketsAreCounted p (heap_in p (after p h log)) (after p h log).locals
counted-ends p ready differ [] h i set now counted is = counted
counted-ends p ready differ (x ∷ xs) h i set now counted is =
    let step : Goes p h i x.mutator x.event = goes p ready h i set now x.mutator is.0 x.event is.1 in
    counted-ends p ready differ xs (next p h x.mutator x.event) _ step.set step.moment (counted-next p ready differ h i set now x.mutator is.0 counted x.event is.1) is.3

-- from the beginning of an epoch
pub first-counted : (p : Epoch) → EpochMayBegin p → TicketsAreCounted p p.before (first_local_of p.mutators)
first-counted p ready =
    let most : ℕ = allowance_of p.rules.reserve p.before in
    let none : (ks : List ℕ) → sum_by (λ k. 0) ks ≡ 0 = nothing in
    record {
      budget = sum-same (λ k. drawn_by (first_local_of p.mutators k)) (λ k. 0) (first-states (λ l. drawn_by l ≡ 0) (λ m. omega arith) p.mutators) (numbers_of p.mutators) ∙ none (numbers_of p.mutators) ∙ sym ready.tickets;
      allowed = sum-same (λ k. allowed_to most (first_local_of p.mutators k)) (λ k. 0) (first-states (λ l. allowed_to most l ≡ 0) (λ m. omega arith) p.mutators) (numbers_of p.mutators) ∙ none (numbers_of p.mutators)
          ∙ sym (ap (λ x. smaller x most) ready.tickets ∙ zero-smaller most);
      free = (let e : sum_by (λ k. taken_by (first_local_of p.mutators k)) (numbers_of p.mutators) ≡ 0 =
          sum-same (λ k. taken_by (first_local_of p.mutators k)) (λ k. 0) (first-states (λ l. taken_by l ≡ 0) (λ m. refl) p.mutators) (numbers_of p.mutators) ∙ none (numbers_of p.mutators) in omega arith);
      drawn = λ m t has. absurd (first-states (λ l. l.ticket ≡ Some t → ⊥) (λ k is. none-some t is) p.mutators m has);
      apart = λ m n t has. absurd (first-states (λ l. l.ticket ≡ Some t → ⊥) (λ k is. none-some t is) p.mutators m has);
    }
  where
    nothing : (ks : List ℕ) → sum_by (λ k. 0) ks ≡ 0
    nothing [] = refl
    nothing (k ∷ ks) = sum_by-cons (λ q. 0) k ks ∙ (let rest : sum_by (λ q. 0) ks ≡ 0 = nothing ks in omega arith)

    zero-smaller : (most : ℕ) → smaller 0 most ≡ 0
    zero-smaller most = elim (cases_lt 0 most) as (λ _. smaller 0 most ≡ 0) [
      | inl some ↦ smaller-left 0 most some
      | inr none ↦ smaller-right 0 most none ∙ (omega arith)
    ]
