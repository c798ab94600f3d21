-- What all shares together say of their bucket.
use Rattle.std.proofs.Common.{◌≡◌, ℕ, ◌<◌, suc, List, [], ◌∷◌, ◌++◌, map, refl, sym, ap, ◌∙◌, subst, All, Result, Ok, Err, IfOk, Vec, Global, length, get_or, arith}
use Rattle.std.specs.List.{AllZip, flat_map}
use Rattle.std.proofs.lemmas.List.{append-nil, map-append}
use Rattle.std.proofs.lemmas.Grind.{flat_map-append}
use Rattle.std.proofs.lemmas.List.Elements.{All-append, All-cons, All-nil, All-head, All-tail, All-take, All-drop, filter-append}
use lib.Seq.{take-append_seam, drop-append_seam}
use Rattle.std.proofs.lemmas.List.Sorted.{IsPermutation-refl, IsPermutation-trans, IsPermutation-append}
use Rattle.std.specs.List.Sorted.{IsPermutation}
use Rattle.std.specs.declared.alloc.AllocError.{AllocError}
use Rattle.work_packets.specs.declared.packet.Bucket.{Bucket}
use Rattle.work_packets.specs.declared.packet.Packet.{Packet}
use Rattle.work_packets.specs.declared.plain_split.Finished.{Finished}
use Rattle.work_packets.specs.declared.share.Share.{Share}
use Rattle.work_packets.specs.Awaiting.{AwaitsAll}
use Rattle.work_packets.specs.Buckets.{IsSameOrLater}
use Rattle.work_packets.specs.Packets.{HasItems, packets_of, packets_after}
use Rattle.work_packets.specs.Shares.{packets_in, IsRunnable, Finishes}
use Rattle.work_packets.specs.Steps.{Step, ran, pushed, ran_by_all, pushed_by_all, RunsBucket}
use Rattle.work_packets.proofs.Pieces.{piece, join, rearranged}

module _ {X : Type 0} where
  all-left : (P : X → Type 0) (xs ys : List X) → All P (xs ++ ys) → All P xs
  all-left P xs ys h = subst (All P) (take-append_seam xs ys) (All-take P (length xs) (xs ++ ys) h)

  all-right : (P : X → Type 0) (xs ys : List X) → All P (xs ++ ys) → All P ys
  all-right P xs ys h = subst (All P) (drop-append_seam xs ys) (All-drop P (length xs) (xs ++ ys) h)

module _ {T W H S : Type 0} (home : W → H) (takes : H → Packet T → Type 0) (awaits : S → W → List (Packet T) → Type 0) (b : Bucket) where
  pub one-runnable : (s : Share T W) → All (λ p. p.bucket ≡ b) s.packets.items → All HasItems s.packets.items → All (takes (home s.worker)) s.packets.items → ((start : S) × AwaitsAll awaits start s.worker s.packets.items) → IsRunnable home takes awaits b s
  one-runnable s bucket sized taken awaited = record { in_bucket = bucket; sized = sized; taken = taken; awaited = awaited }

  pub runnable : (h : H) (shares : List (Share T W)) → All (λ w. home w ≡ h) (map (λ s. s.worker) shares) → All (λ p. p.bucket ≡ b) (packets_in shares) → All HasItems (packets_in shares) → All (takes h) (packets_in shares)
      → All (λ s. (start : S) × AwaitsAll awaits start s.worker s.packets.items) shares → All (IsRunnable home takes awaits b) shares
  runnable h [] own bucket sized taken awaited = All-nil _
  runnable h (s ∷ shares) own bucket sized taken awaited =
      let own-head : home s.worker ≡ h = All-head (λ w. home w ≡ h) s.worker (map (λ s. s.worker) shares) own in
      let here : IsRunnable home takes awaits b s = record {
        in_bucket = all-left (λ p. p.bucket ≡ b) s.packets.items (packets_in shares) bucket;
        sized = all-left HasItems s.packets.items (packets_in shares) sized;
        taken = subst (λ k. All (takes k) s.packets.items) (sym own-head) (all-left (takes h) s.packets.items (packets_in shares) taken);
        awaited = All-head (λ s. (start : S) × AwaitsAll awaits start s.worker s.packets.items) s shares awaited;
      } in
      All-cons (IsRunnable home takes awaits b) s shares here
      (runnable h shares (All-tail (λ w. home w ≡ h) s.worker (map (λ s. s.worker) shares) own) (all-right (λ p. p.bucket ≡ b) s.packets.items (packets_in shares) bucket)
      (all-right HasItems s.packets.items (packets_in shares) sized) (all-right (takes h) s.packets.items (packets_in shares) taken)
      (All-tail (λ s. (start : S) × AwaitsAll awaits start s.worker s.packets.items) s shares awaited))

module _ {T W H S : Type 0} (home : W → H) (takes : H → Packet T → Type 0) (awaits : S → W → List (Packet T) → Type 0) (b : Bucket) (steps : W → Packet T → List (Packet T) → W → Type 0) where
  pub bucket-runs : (shares : List (Share T W)) (fs : List (Finished T W)) → AllZip (Finishes home takes awaits b steps) shares fs
      → (logs : List (List (Step W T))) × RunsBucket steps (record { bucket = b; before = map (λ s. s.worker) shares; first = packets_in shares; logs = logs; after = map (λ f. f.worker) fs; later = flat_map (λ f. f.later.items) fs })
  bucket-runs [] [] z = ([], record { reached = tt; once = IsPermutation-refl []; left = IsPermutation-refl []; order = All-nil _ })
  bucket-runs [] (f ∷ fs) z = absurd z
  bucket-runs (s ∷ shares) [] z = absurd z
  bucket-runs (s ∷ shares) (f ∷ fs) z =
      let rest = bucket-runs shares fs z.1 in let log = z.0.log in let logs = rest.0 in
      let mine = packets_of b (pushed log) in let theirs = packets_of b (pushed_by_all logs) in
      let both : IsPermutation ((s.packets.items ++ mine) ++ (packets_in shares ++ theirs)) (ran log ++ ran_by_all logs) =
      IsPermutation-append _ _ _ _ (subst (IsPermutation (s.packets.items ++ mine)) (append-nil (ran log)) z.0.runs.once) rest.1.once in
      let order : IsPermutation ((s.packets.items ++ packets_in shares) ++ (mine ++ theirs)) ((s.packets.items ++ mine) ++ (packets_in shares ++ theirs)) =
      rearranged (s.packets.items ∷ packets_in shares ∷ mine ∷ theirs ∷ []) (join (join (piece 0) (piece 1)) (join (piece 2) (piece 3))) (join (join (piece 0) (piece 2)) (join (piece 1) (piece 3))) refl in
      let now : packets_of b (pushed log ++ pushed_by_all logs) ≡ mine ++ theirs = filter-append _ (pushed log) (pushed_by_all logs) in
      let after : packets_after b (pushed log ++ pushed_by_all logs) ≡ packets_after b (pushed log) ++ packets_after b (pushed_by_all logs) = filter-append _ (pushed log) (pushed_by_all logs) in (
        log ∷ logs,
        record {
          reached = (z.0.runs.reached, rest.1.reached);
          once = subst (λ l. IsPermutation ((s.packets.items ++ packets_in shares) ++ l) (ran log ++ ran_by_all logs)) (sym now) (IsPermutation-trans _ _ _ order both);
          left = subst (λ l. IsPermutation l (f.later.items ++ flat_map (λ f. f.later.items) fs)) (sym after) (IsPermutation-append _ _ _ _ z.0.runs.left rest.1.left);
          order = All-append (λ p. IsSameOrLater b p.bucket) (pushed log) (pushed_by_all logs) z.0.runs.order rest.1.order;
        },
      )

  -- one worker
  pub one-runs : (s : Share T W) (f : Finished T W) → Finishes home takes awaits b steps s f
      → (logs : List (List (Step W T))) × RunsBucket steps (record { bucket = b; before = s.worker ∷ []; first = s.packets.items; logs = logs; after = f.worker ∷ []; later = f.later.items })
  one-runs s f fin =
      let o = bucket-runs (s ∷ []) (f ∷ []) (fin, tt) in (
        o.0,
        subst (λ l. RunsBucket steps (record { bucket = b; before = s.worker ∷ []; first = l; logs = o.0; after = f.worker ∷ []; later = f.later.items })) (append-nil s.packets.items)
            (subst (λ l. RunsBucket steps (record { bucket = b; before = s.worker ∷ []; first = s.packets.items ++ []; logs = o.0; after = f.worker ∷ []; later = l })) (append-nil f.later.items) o.1),
      )

  pub homes-stay : (h : H) (shares : List (Share T W)) (fs : List (Finished T W)) → AllZip (Finishes home takes awaits b steps) shares fs → All (λ w. home w ≡ h) (map (λ s. s.worker) shares)
      → All (λ w. home w ≡ h) (map (λ f. f.worker) fs)
  homes-stay h [] [] z own = All-nil _
  homes-stay h [] (f ∷ fs) z own = absurd z
  homes-stay h (s ∷ shares) [] z own = absurd z
  homes-stay h (s ∷ shares) (f ∷ fs) z own = All-cons (λ w. home w ≡ h) f.worker _ (z.0.same_home ∙ All-head (λ w. home w ≡ h) s.worker (map (λ s. s.worker) shares) own)
      (homes-stay h shares fs z.1 (All-tail (λ w. home w ≡ h) s.worker (map (λ s. s.worker) shares) own))

  pub later-taken : (h : H) (shares : List (Share T W)) (fs : List (Finished T W)) → AllZip (Finishes home takes awaits b steps) shares fs → All (λ w. home w ≡ h) (map (λ s. s.worker) shares)
      → All (takes h) (flat_map (λ f. f.later.items) fs)
  later-taken h [] [] z own = All-nil _
  later-taken h [] (f ∷ fs) z own = absurd z
  later-taken h (s ∷ shares) [] z own = absurd z
  later-taken h (s ∷ shares) (f ∷ fs) z own = All-append (takes h) f.later.items _ (subst (λ k. All (takes k) f.later.items) (All-head (λ w. home w ≡ h) s.worker (map (λ s. s.worker) shares) own) z.0.taken)
      (later-taken h shares fs z.1 (All-tail (λ w. home w ≡ h) s.worker (map (λ s. s.worker) shares) own))

  pub later-sized : (shares : List (Share T W)) (fs : List (Finished T W)) → AllZip (Finishes home takes awaits b steps) shares fs → All HasItems (flat_map (λ f. f.later.items) fs)
  later-sized [] [] z = All-nil _
  later-sized [] (f ∷ fs) z = absurd z
  later-sized (s ∷ shares) [] z = absurd z
  later-sized (s ∷ shares) (f ∷ fs) z = All-append HasItems f.later.items _ z.0.sized (later-sized shares fs z.1)

module _ {J R : Type 0} where
  -- what holds at each place holds of the two lists
  pub zipped : (Q : J → R → Type 0) (js : List J) (rs : List R) → length rs ≡ length js → ((i : ℕ) (d : R) → i < length js → (j : J) × ((e : J) → get_or js i e ≡ j) × Q j (get_or rs i d)) → AllZip Q js rs
  zipped Q [] [] e h = tt
  zipped Q [] (r ∷ rs) e h = absurd (omega arith)
  zipped Q (j ∷ js) [] e h = absurd (omega arith)
  zipped Q (j ∷ js) (r ∷ rs) e h = (let k = h 0 r (omega arith) in subst (λ x. Q x r) (sym (k.1 j)) k.2, zipped Q js rs (omega arith) (λ i d lt. h (suc i) d (omega arith)))

module _ {J D : Type 0} where
  zip-ok : (Q : J → D → Type 0) (js : List J) (ds : List D) → AllZip (λ j r. IfOk {E = AllocError} r (Q j)) js (map (λ d. Ok d) ds) → AllZip Q js ds
  zip-ok Q [] [] z = tt
  zip-ok Q [] (d ∷ ds) z = z
  zip-ok Q (j ∷ js) [] z = z
  zip-ok Q (j ∷ js) (d ∷ ds) z = (z.0, zip-ok Q js ds z.1)

module _ {A E : Type 0} where
  pub if-ok : (r : Result A E) (P Q : A → Type 0) → ((x : A) → P x → Q x) → IfOk r P → IfOk r Q
  if-ok (Ok x) P Q f h = f x h
  if-ok (Err e) P Q f h = h

module _ {D W P E : Type 0} where
  -- one more result is Ok
  pub one-more : (worker : D → W) (later : D → List P) (rs : List (Result D E)) (ws : List W) (ps : List P) (r : Result D E) (d : D) (ws' : List W) (ps' : List P)
      → ((ds : List D) × (rs ≡ map (λ x. Ok x) ds) × (ws ≡ map worker ds) × (ps ≡ flat_map later ds)) → r ≡ Ok d → ws' ≡ ws ++ worker d ∷ [] → ps' ≡ ps ++ later d
      → (ds : List D) × (rs ++ r ∷ [] ≡ map (λ x. Ok x) ds) × (ws' ≡ map worker ds) × (ps' ≡ flat_map later ds)
  one-more worker later rs ws ps r d ws' ps' h e f g = (
    h.0 ++ d ∷ [],
    ap (λ l. l ++ r ∷ []) h.1 ∙ ap (λ x. map (λ x. Ok x) h.0 ++ x ∷ []) e ∙ sym (map-append (λ x. Ok x) h.0 (d ∷ [])),
    f ∙ ap (λ l. l ++ worker d ∷ []) h.2 ∙ sym (map-append worker h.0 (d ∷ [])),
    g ∙ ap (λ l. l ++ later d) h.3 ∙ ap (λ l. flat_map later h.0 ++ l) (sym (append-nil (later d))) ∙ sym (flat_map-append later h.0 (d ∷ [])),
  )

module _ {T W : Type 0} where
  -- all results are Ok, and these are their workers and packets
  abbrev pub Gathers : List (Result (Finished T W) AllocError) → Vec W Global × Vec (Packet T) Global → Type 0
  Gathers results r = (fs : List (Finished T W)) × (results ≡ map (λ f. Ok f) fs) × (r.0.items ≡ map (λ f. f.worker) fs) × (r.1.items ≡ flat_map (λ f. f.later.items) fs)

  pub all-finish : (Q : Share T W → Finished T W → Type 0) (shares : List (Share T W)) (results : List (Result (Finished T W) AllocError)) (r : Vec W Global × Vec (Packet T) Global)
      → AllZip (λ s x. IfOk x (Q s)) shares results → (q : Gathers results r) → AllZip Q shares q.0
  all-finish Q shares results r z q = zip-ok Q shares q.0 (subst (AllZip (λ s x. IfOk x (Q s)) shares) q.1 z)
