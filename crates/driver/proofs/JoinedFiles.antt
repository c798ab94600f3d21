-- Files that are read one after another: what is known after one more, and that reading ends at a single file.
use Rattle.std.proofs.Common.{◌≡◌, ◌≢◌, refl, sym, ◌∙◌, ap, subst, ℕ, zero, suc, ◌<◌, ◌≤◌, inl, inr, arith, List, [], ◌∷◌, ◌++◌, append_assoc, length, take, map, append-nil}
use Rattle.std.specs.Prelude.{Option, None, Some, IfSome, Result, Ok, Err, IsErr, slice_get, unwrap_or, IfOk}
use Rattle.std.proofs.lemmas.Bool.{true≢false, cases_order}
use Rattle.std.proofs.lemmas.Option.{none-some, slice_get_within, get_or_from_slice_get}
use Rattle.std.proofs.lemmas.List.{map-append}
use Rattle.std.proofs.Math.Seq.{take-suc}
use Rattle.ideal_heap.specs.declared.command.Command.{Command}
use Rattle.trace_text.specs.declared.fault.TraceFault.{TraceFault}
use Rattle.trace_text.specs.declared.fault.TraceFault.TheVariants as texts
use Rattle.trace_text.specs.Grammar.{trace}
use Rattle.outside.specs.Outside.{Asked, SourceState, HasRisen}
use Rattle.outside.specs.declared.reader.TheConstants.{MAX_FILE_BYTES}
use Rattle.driver.specs.declared.traces.FileFault.{FileFault}
use Rattle.driver.specs.declared.traces.FileFault.TheVariants as file
use Rattle.driver.specs.Printed.{Content, IsTraceIn, AreTraces, AreKnown, EndsAtFile, EndsAtKnown, AsksFirst, AsksPrefix, IsAny, IsLong, IsNoTrace, HasFault}
use Rattle.driver.specs.Reading.{AsksName, HaltsAt}

any-content : (o : Option (List ℕ)) → IfSome o IsAny
any-content None = tt
any-content (Some bytes) = tt

module _ (content : Content) where
  -- one more file
  pub more-traces : (names : List (List ℕ)) (ts : List (List Command)) (name : List ℕ) (t : List Command) → AreTraces content names ts → IsTraceIn (content name) t → AreTraces content (names ++ name ∷ []) (ts ++ t ∷ [])
  more-traces [] [] name t are one = (one, tt)
  more-traces [] (u ∷ ts) name t are one = absurd are
  more-traces (n ∷ names) [] name t are one = absurd are
  more-traces (n ∷ names) (u ∷ ts) name t are one = (are.0, more-traces names ts name t are.1 one)

  -- the trace of one of the files
  pub trace-at : (names : List (List ℕ)) (ts : List (List Command)) (k : ℕ) (name : List ℕ) → AreTraces content names ts → slice_get names k ≡ Some name → (t : List Command) × IsTraceIn (content name) t
  trace-at [] ts k name are is = absurd (none-some name is)
  trace-at (n ∷ names) [] k name are is = absurd are
  trace-at (n ∷ names) (t ∷ ts) zero name are is = (t, subst (λ (o : Option (List ℕ)). IfSome o (λ x. IsTraceIn (content x) t)) is are.0)
  trace-at (n ∷ names) (t ∷ ts) (suc k) name are is = trace-at names ts k name are.1 is

  pub reported-at : (names : List (List ℕ)) (k : ℕ) (name : List ℕ) → AreKnown content names → slice_get names k ≡ Some name → (bytes : List ℕ) × (content name ≡ Some bytes)
  reported-at [] k name reported is = absurd (none-some name is)
  reported-at (n ∷ names) zero name reported is = subst (λ (o : Option (List ℕ)). IfSome o (λ x. (bytes : List ℕ) × (content x ≡ Some bytes))) is reported.0
  reported-at (n ∷ names) (suc k) name reported is = reported-at names k name reported.1 is

  -- what holds of a content if known holds of the known content
  of-reported : (name bytes : List ℕ) (P : List ℕ → Type 0) → content name ≡ Some bytes → IfSome (content name) P → P bytes
  of-reported name bytes P e known = subst (λ (o : Option (List ℕ)). IfSome o P) e known

-- one more of the names
pub one-more : (names : List (List ℕ)) (k : ℕ) (name : List ℕ) → slice_get names k ≡ Some name → take (suc k) names ≡ take k names ++ name ∷ []
one-more names k name is = take-suc names k name (slice_get_within names k name is) ∙ ap (λ x. take k names ++ x ∷ []) (get_or_from_slice_get names k name name is)

pub asks-more : (names : List (List ℕ)) (k : ℕ) (name : List ℕ) (count : ℕ) (before now next : Asked) → slice_get names k ≡ Some name → AsksFirst k names before now → next ≡ now ++ (name, count) ∷ [] → AsksFirst (suc k) names before next
asks-more names k name count before now next is asked one = record {
  since = asked.since ++ (name, count) ∷ [];
  all = one ∙ ap (λ x. x ++ (name, count) ∷ []) asked.all ∙ append_assoc before asked.since ((name, count) ∷ []);
  names = map-append (λ a. a.0) asked.since ((name, count) ∷ []) ∙ ap (λ x. x ++ name ∷ []) asked.names ∙ sym (one-more names k name is);
}

-- the names that were asked for
pub names-asked : (n : ℕ) (files : List (List ℕ)) (before after : Asked) → AsksFirst n files before after → map (λ x. x.0) after ≡ map (λ x. x.0) before ++ take n files
names-asked n files before after a =
    ap (map (λ x. x.0)) a.all ∙ map-append (λ x. x.0) before a.since ∙ ap (λ x. map (λ y. y.0) before ++ x) a.names

-- no name of a job was asked for
pub asks-none : (files : List (List ℕ)) (before : Asked) → AsksPrefix files before before
asks-none files before = (0, record { since = []; all = sym (append-nil before); names = refl })

pub risen-since : (first count last : ℕ) → first ≤ count → HasRisen count last → HasRisen first last
risen-since first count last since risen = elim risen as (λ _. HasRisen first last) [ inl h ↦ inl (omega (arith, since, h)) | inr h ↦ inr h ]

pub asks-prefix : {X : Type 0} (r : Result X FileFault) (names : List (List ℕ)) (k : ℕ) (name : List ℕ) (before : Asked) (now next : SourceState) → slice_get names k ≡ Some name → AsksFirst k names before now.asked → AsksName r name now next
    → AsksPrefix names before next.asked
asks-prefix (Ok x) names k name before now next is asked one = (suc k, asks-more names k name now.faults before now.asked next.asked is asked one)
asks-prefix (Err file.Unread) names k name before now next is asked one = (suc k, asks-more names k name now.faults before now.asked next.asked is asked one)
asks-prefix (Err file.TooLong) names k name before now next is asked one = (suc k, asks-more names k name now.faults before now.asked next.asked is asked one)
asks-prefix (Err (file.Bad f)) names k name before now next is asked one = (suc k, asks-more names k name now.faults before now.asked next.asked is asked one)
asks-prefix (Err file.OutOfMemory) names k name before now next is asked one =
    elim one as (λ _. AsksPrefix names before next.asked) [
      | inl more ↦ (suc k, asks-more names k name now.faults before now.asked next.asked is asked more)
      | inr none ↦ (k, subst (λ (x : Asked). AsksFirst k names before x) (sym none) asked)
    ]

-- the fault of one file, after files that have traces
module _ (names : List (List ℕ)) (k : ℕ) (name : List ℕ) (ts : List (List Command)) (first now next : SourceState) (is : slice_get names k ≡ Some name)
    (good : AreTraces first.content (take k names) ts) (same : now.content ≡ first.content) (later : first.faults ≤ now.faults) (asked : AsksFirst k names first.asked now.asked) where
  abbrev ends : (P : List ℕ → Type 0) → IfSome (now.content name) P → EndsAtFile first.content names k P
  ends P holds = record { file = name; is = is; traces = ts; good = good; content_is = subst (λ (content : Content). IfSome (content name) P) same holds }

  pub halts : (X : Type 0) (fault : FileFault) → AsksName {X = X} (Err fault) name now next → (fault ≡ file.Unread → HasRisen now.faults next.faults) → (fault ≡ file.TooLong → IfSome (now.content name) IsLong)
      → ((f : TraceFault) → fault ≡ file.Bad f → IfSome (now.content name) (HasFault f)) → HaltsAt names first next k fault
  halts X file.Unread one unread long bad = (ends IsAny (any-content (now.content name)), record { earlier = now.asked; prefix = asked; count = now.faults; last = one; since = later; risen = unread refl })
  halts X file.TooLong one unread long bad = (ends IsLong (long refl), asks-more names k name now.faults first.asked now.asked next.asked is asked one)
  halts X (file.Bad f) one unread long bad = (ends (HasFault f) (bad f refl), asks-more names k name now.faults first.asked now.asked next.asked is asked one)
  halts X file.OutOfMemory one unread long bad = tt

-- an element of a prefix
get-take : {X : Type 0} (xs : List X) (n k : ℕ) (x : X) → k < n → slice_get xs k ≡ Some x → slice_get (take n xs) k ≡ Some x
get-take [] n k x low is = absurd (none-some x is)
get-take (y ∷ ys) zero k x low is = absurd (omega (arith, low))
get-take (y ∷ ys) (suc n) zero x low is = is
get-take (y ∷ ys) (suc n) (suc k) x low is = get-take ys n k x (omega (arith, low)) is

-- a property that no text of lawful length has that is a trace
abbrev pub IsOffTrace : (List ℕ → Type 0) → Type 0
IsOffTrace P = (bytes : List ℕ) (t : List Command) → P bytes → (length bytes ≤ MAX_FILE_BYTES) × (trace bytes ≡ Ok t) → ⊥

abbrev pub AreDisjoint : (List ℕ → Type 0) → (List ℕ → Type 0) → Type 0
AreDisjoint P Q = (bytes : List ℕ) → P bytes → Q bytes → ⊥

no-error : (r : Result (List Command) TraceFault) (t : List Command) → r ≡ Ok t → IsErr r → ⊥
no-error r t e err = true≢false (sym (subst (λ (x : Result (List Command) TraceFault). IsErr x) e err))

fault-is : (r : Result (List Command) TraceFault) (f : TraceFault) → r ≡ Err f → IsErr r
fault-is r f e = subst (λ (x : Result (List Command) TraceFault). IsErr x) (sym e) refl

pub long-off : IsOffTrace IsLong
long-off bytes t long fine = let most : MAX_FILE_BYTES < length bytes = long in omega (arith, most, fine.0)

pub bad-off : IsOffTrace IsNoTrace
bad-off bytes t bad fine = no-error (trace bytes) t fine.1 bad.1

pub fault-off : (f : TraceFault) → IsOffTrace (HasFault f)
fault-off f bytes t bad fine = no-error (trace bytes) t fine.1 (fault-is (trace bytes) f bad.1)

pub long-bad : AreDisjoint IsLong IsNoTrace
long-bad bytes long bad = let most : MAX_FILE_BYTES < length bytes = long in omega (arith, most, bad.0)

pub fault-long : (f : TraceFault) → AreDisjoint (HasFault f) IsLong
fault-long f bytes bad long = let most : MAX_FILE_BYTES < length bytes = long in omega (arith, most, bad.0)

module _ (content : Content) (names : List (List ℕ)) where
  -- all files have traces, yet one up to which contents are known is not a trace
  pub traces-clash : (ts : List (List Command)) (Q : List ℕ → Type 0) → IsOffTrace Q → AreTraces content names ts → EndsAtKnown content names Q → ⊥
  traces-clash ts Q off good ends =
      let at = ends.1 in
      let t = trace-at content names ts ends.0 at.file good at.is in
      let known = reported-at content (take (suc ends.0) names) ends.0 at.file ends.2 (get-take names (suc ends.0) ends.0 at.file (omega arith) at.is) in
      off known.0 t.0 (of-reported content at.file known.0 Q known.1 at.content_is) (of-reported content at.file known.0 (λ bytes. (length bytes ≤ MAX_FILE_BYTES) × (trace bytes ≡ Ok t.0)) known.1 t.1)

  -- one file is not a trace, yet all are known and have traces
  pub reported-clash : (ts : List (List Command)) (k : ℕ) (P : List ℕ → Type 0) → IsOffTrace P → EndsAtFile content names k P → AreKnown content names → AreTraces content names ts → ⊥
  reported-clash ts k P off at reported good =
      let t = trace-at content names ts k at.file good at.is in
      let known = reported-at content names k at.file reported at.is in
      off known.0 t.0 (of-reported content at.file known.0 P known.1 at.content_is) (of-reported content at.file known.0 (λ bytes. (length bytes ≤ MAX_FILE_BYTES) × (trace bytes ≡ Ok t.0)) known.1 t.1)

  below : (k j : ℕ) (P : List ℕ → Type 0) → k < j → IsOffTrace P → (file : List ℕ) → slice_get names k ≡ Some file → (ts : List (List Command)) → AreTraces content (take j names) ts
      → (bytes : List ℕ) → content file ≡ Some bytes → P bytes → ⊥
  below k j P low off file is ts good bytes known p =
      let t = trace-at content (take j names) ts k file good (get-take names j k file low is) in
      off bytes t.0 p (of-reported content file bytes (λ x. (length x ≤ MAX_FILE_BYTES) × (trace x ≡ Ok t.0)) known t.1)

  -- reading ends at a single file, with a single cause
  pub ends-clash : (k : ℕ) (P Q : List ℕ → Type 0) → IsOffTrace P → IsOffTrace Q → AreDisjoint P Q → EndsAtFile content names k P → EndsAtKnown content names Q → ⊥
  ends-clash k P Q off-p off-q apart at ends =
      let j = ends.0 in
      let other = ends.1 in
      let reported : (i : ℕ) (file : List ℕ) → i < suc j → slice_get names i ≡ Some file → (bytes : List ℕ) × (content file ≡ Some bytes) =
      λ i file low is. reported-at content (take (suc j) names) i file ends.2 (get-take names (suc j) i file low is) in
      elim (cases_order k j) as (λ _. ⊥) [
        | inl same ↦
            let is : slice_get names j ≡ Some at.file = subst (λ (i : ℕ). slice_get names i ≡ Some at.file) same at.is in
            let one : at.file ≡ other.file = ap (λ o. unwrap_or o at.file) (sym is ∙ other.is) in
            let known = reported j other.file (omega arith) other.is in
            let here : content at.file ≡ Some known.0 = ap content one ∙ known.1 in
            apart known.0 (of-reported content at.file known.0 P here at.content_is) (of-reported content other.file known.0 Q known.1 other.content_is)
        | inr (inl low) ↦
            let known = reported k at.file (omega (arith, low)) at.is in
            below k j P low off-p at.file at.is other.traces other.good known.0 known.1 (of-reported content at.file known.0 P known.1 at.content_is)
        | inr (inr high) ↦
            let known = reported j other.file (omega arith) other.is in
            below j k Q high off-q other.file other.is at.traces at.good known.0 known.1 (of-reported content other.file known.0 Q known.1 other.content_is)
      ]

-- what was read is the content, if that is known
pub trace-in : (r : Result (List Command) FileFault) (content : Option (List ℕ)) (bytes : List ℕ) → length bytes ≤ MAX_FILE_BYTES → IfSome content (λ known. bytes ≡ known)
    → IfOk r (λ commands. trace bytes ≡ Ok commands) → IfOk r (IsTraceIn content)
trace-in (Err e) content bytes few is read = tt
trace-in (Ok commands) None bytes few is read = tt
trace-in (Ok commands) (Some known) bytes few is read = subst (λ (b : List ℕ). (length b ≤ MAX_FILE_BYTES) × (trace b ≡ Ok commands)) is (few, read)

pub fault-in : (f : TraceFault) (content : Option (List ℕ)) (bytes : List ℕ) → length bytes ≤ MAX_FILE_BYTES → IfSome content (λ known. bytes ≡ known) → trace bytes ≡ Err f → (f ≢ texts.OutOfMemory) → IfSome content (HasFault f)
fault-in f None bytes few is bad other = tt
fault-in f (Some known) bytes few is bad other = subst (HasFault f) is (few, bad, other)
