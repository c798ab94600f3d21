-- One more reply beside those that are stored.
use Rattle.std.proofs.Common.{◌≡◌, refl, sym, ◌∙◌, ap, ap₂, subst, true≢false, ℕ, suc, ◌+◌, ◌≤◌, arith, List, [], ◌∷◌, ◌++◌, length, length-append, length-drop, drop}
use Rattle.std.specs.Prelude.{sum, sum_by, count_by, cond, nat_eq, true, false, Bool, ◌&&◌, if◌then◌else◌}
use Rattle.std.proofs.lemmas.List.{get_or_append_left, drop-append-le}
use Rattle.std.proofs.lemmas.List.Sums.{sum_by-cons, sum_by-append}
use Rattle.std.proofs.lemmas.Bool.{eqb-true}
use Rattle.ideal_heap.specs.Names.{name, same_name}
use Rattle.ideal_heap.specs.declared.name.Name.{Name}
use Rattle.ideal_heap.specs.declared.reply.Reply.{Reply}
use Rattle.ideal_heap.specs.declared.reply.Reply.TheVariants as r
use Rattle.ideal_heap.specs.Runs.{is_full}
use Rattle.stored_replies.specs.declared.reply_kind.ReplyKind.{ReplyKind}
use Rattle.stored_replies.specs.declared.reply_kind.ReplyKind.TheVariants as k
use Rattle.stored_replies.specs.Kinds.{kind_of, kind_after, kind_index, next_name, last_after, last_in, is_full_kind, is_next_kind, is_of_index, is_of_kind, number_replied, first_reply, names_of_kind, numbers_in, unpacked, HasParts}

-- as many replies as kinds
pub length-unpacked : (last : Name) (kinds : List ReplyKind) (names : List Name) (numbers : List ℕ) → length (unpacked last kinds names numbers) ≡ length kinds
length-unpacked last [] names numbers = refl
length-unpacked last (kind ∷ kinds) names numbers = ap suc (length-unpacked (last_after last kind names) kinds (drop (names_of_kind kind) names) (drop (numbers_in kind) numbers))

-- a reply has its own parts, whatever follows
first-same : (last : Name) (kind : ReplyKind) (names more : List Name) (numbers others : List ℕ) → names_of_kind kind ≤ length names → numbers_in kind ≤ length numbers
    → first_reply last kind (names ++ more) (numbers ++ others) ≡ first_reply last kind names numbers
first-same last k.New names more numbers others some few = ap r.New (get_or_append_left names more (name 0 0) 0 some)
first-same last k.Full names more numbers others some few = refl
first-same last k.Ref names more numbers others some few = ap r.Ref (get_or_append_left names more (name 0 0) 0 some)
first-same last k.Nil names more numbers others some few = refl
first-same last k.Num names more numbers others some few = ap r.Num (get_or_append_left numbers others 0 0 few)
first-same last k.Done names more numbers others some few = refl
first-same last k.Yes names more numbers others some few = refl
first-same last k.No names more numbers others some few = refl
first-same last k.Null names more numbers others some few = refl
first-same last k.Range names more numbers others some few = refl
first-same last k.Next names more numbers others some few = refl

last-same : (last : Name) (kind : ReplyKind) (names more : List Name) → names_of_kind kind ≤ length names → last_after last kind (names ++ more) ≡ last_after last kind names
last-same last k.New names more some = get_or_append_left names more (name 0 0) 0 some
last-same last k.Full names more some = refl
last-same last k.Ref names more some = refl
last-same last k.Nil names more some = refl
last-same last k.Num names more some = refl
last-same last k.Done names more some = refl
last-same last k.Yes names more some = refl
last-same last k.No names more some = refl
last-same last k.Null names more some = refl
last-same last k.Range names more some = refl
last-same last k.Next names more some = refl

-- the names and numbers that a first reply has are there, and those of the others are left
rest-has : (kind : ReplyKind) (kinds : List ReplyKind) (names : List Name) (numbers : List ℕ) → HasParts (kind ∷ kinds) names numbers
    → (names_of_kind kind ≤ length names) × (numbers_in kind ≤ length numbers) × HasParts kinds (drop (names_of_kind kind) names) (drop (numbers_in kind) numbers)
rest-has kind kinds names numbers has =
    let n : names_of_kind kind + sum_by names_of_kind kinds ≡ length names = sym (sum_by-cons names_of_kind kind kinds) ∙ has.name_count in
    let m : numbers_in kind + sum_by numbers_in kinds ≡ length numbers = sym (sum_by-cons numbers_in kind kinds) ∙ has.number_count in (
      omega (arith, n),
      omega (arith, m),
      record {
        name_count = (let left = length-drop (names_of_kind kind) names in omega (arith, n, left));
        number_count = (let left = length-drop (numbers_in kind) numbers in omega (arith, m, left));
      },
    )

-- one more reply, with its parts
pub unpacked-more : (last : Name) (kinds : List ReplyKind) (names more : List Name) (numbers others : List ℕ) (kind : ReplyKind) → HasParts kinds names numbers
    → unpacked last (kinds ++ kind ∷ []) (names ++ more) (numbers ++ others) ≡ unpacked last kinds names numbers ++ first_reply (last_in last kinds names) kind more others ∷ []
unpacked-more last [] [] more [] others kind has = refl
unpacked-more last [] (n ∷ names) more numbers others kind has = let wrong : 0 ≡ length (n ∷ names) = has.name_count in absurd (omega (arith, wrong))
unpacked-more last [] [] more (x ∷ numbers) others kind has = let wrong : 0 ≡ length (x ∷ numbers) = has.number_count in absurd (omega (arith, wrong))
unpacked-more last (first ∷ kinds) names more numbers others kind has =
    let rest = rest-has first kinds names numbers has in
    rw (first-same last first names more numbers others rest.0 rest.1, last-same last first names more rest.0, drop-append-le (names_of_kind first) names more rest.0, drop-append-le (numbers_in first) numbers others rest.1)
    (ap (λ l. first_reply last first names numbers ∷ l) (unpacked-more (last_after last first names) kinds (drop (names_of_kind first) names) more (drop (numbers_in first) numbers) others kind rest.2))

-- the name in the last `new` after one more reply
pub last-more : (last : Name) (kinds : List ReplyKind) (names more : List Name) (numbers : List ℕ) (kind : ReplyKind) → HasParts kinds names numbers
    → last_in last (kinds ++ kind ∷ []) (names ++ more) ≡ last_after (last_in last kinds names) kind more
last-more last [] [] more numbers kind has = refl
last-more last [] (n ∷ names) more numbers kind has = let wrong : 0 ≡ length (n ∷ names) = has.name_count in absurd (omega (arith, wrong))
last-more last (first ∷ kinds) names more numbers kind has =
    let rest = rest-has first kinds names numbers has in
    ap (λ n. last_in n (kinds ++ kind ∷ []) (drop (names_of_kind first) (names ++ more))) (last-same last first names more rest.0)
    ∙ ap (λ ns. last_in (last_after last first names) (kinds ++ kind ∷ []) ns) (drop-append-le (names_of_kind first) names more rest.0)
    ∙ last-more (last_after last first names) kinds (drop (names_of_kind first) names) more (drop (numbers_in first) numbers) kind rest.2

-- the kind and these parts make the reply, leave this name as the last, and are so many `full`s
pub record Makes (last : Name) (kind : ReplyKind) (more : List Name) (others : List ℕ) (reply : Reply) (next : Name) (fulls : ℕ) : Type 0 where
  pub made : first_reply last kind more others ≡ reply
  pub after : last_after last kind more ≡ next
  pub name_count : names_of_kind kind ≡ length more
  pub number_count : numbers_in kind ≡ length others
  pub full_count : cond (is_full_kind kind) 1 0 ≡ fulls

-- the parts, the last name and the number of `full`s are those of the kinds
abbrev pub Stands : List ReplyKind → List Name → List ℕ → Name → ℕ → Type 0
Stands kinds names numbers last fulls = HasParts kinds names numbers × (last ≡ last_in (name 0 0) kinds names) × (fulls ≡ count_by is_full_kind kinds)

sum-more : (f : ReplyKind → ℕ) (kinds : List ReplyKind) (kind : ReplyKind) (m n : ℕ) → sum_by f kinds ≡ m → f kind ≡ n → sum_by f (kinds ++ kind ∷ []) ≡ m + n
sum-more f kinds kind m n all one =
    let split = sum_by-append f kinds (kind ∷ []) in
    let last = sum_by-cons f kind [] in
    let none : sum_by f [] ≡ 0 = refl in
    omega (arith, split, last, none, all, one)

-- one more reply
pub stands-more : (kinds : List ReplyKind) (names more : List Name) (numbers others : List ℕ) (last : Name) (kind : ReplyKind) (reply : Reply) (next : Name) (fulls added : ℕ)
    → Stands kinds names numbers last fulls → Makes last kind more others reply next added
    → Stands (kinds ++ kind ∷ []) (names ++ more) (numbers ++ others) next (fulls + added)
    × (unpacked (name 0 0) (kinds ++ kind ∷ []) (names ++ more) (numbers ++ others) ≡ unpacked (name 0 0) kinds names numbers ++ reply ∷ [])
stands-more kinds names more numbers others last kind reply next fulls added stands makes =
    let has : HasParts kinds names numbers = stands.0 in (
      (
        record {
          name_count = sum-more names_of_kind kinds kind (length names) (length more) has.name_count makes.name_count ∙ sym (length-append names more);
          number_count = sum-more numbers_in kinds kind (length numbers) (length others) has.number_count makes.number_count ∙ sym (length-append numbers others);
        },
        sym makes.after ∙ ap (λ n. last_after n kind more) stands.1 ∙ sym (last-more (name 0 0) kinds names more numbers kind has),
        sym (sum-more (λ x. cond (is_full_kind x) 1 0) kinds kind fulls added (sym stands.2) makes.full_count),
      ),
      unpacked-more (name 0 0) kinds names more numbers others kind has
          ∙ ap (λ n. unpacked (name 0 0) kinds names numbers ++ first_reply n kind more others ∷ []) (sym stands.1)
          ∙ ap (λ r. unpacked (name 0 0) kinds names numbers ++ r ∷ []) makes.made,
    )

eqb-both : (a b : Bool) → a && b ≡ true → (a ≡ true) × (b ≡ true)
eqb-both true true is = (refl, refl)
eqb-both true false is = absurd (true≢false (sym is))
eqb-both false b is = absurd (true≢false (sym is))

same-is : (m n : Name) → same_name m n ≡ true → m ≡ n
same-is m n same =
    let both = eqb-both (nat_eq m.mutator n.mutator) (nat_eq m.birth n.birth) same in
    ap₂ (λ a b. name a b) (eqb-true m.mutator n.mutator both.0) (eqb-true m.birth n.birth both.1)

-- a `new` of kind `Next` has the next name
next-is-by : (last n : Name) (b : Bool) → same_name n (next_name last) ≡ b → is_next_kind (if b then k.Next else k.New) ≡ true → ((if b then k.Next else k.New) ≡ k.Next) × (next_name last ≡ n)
next-is-by last n true same is = (refl, sym (same-is n (next_name last) same))
next-is-by last n false same is = absurd (true≢false (sym is))

pub next-is : (last n : Name) → is_next_kind (kind_after last (r.New n)) ≡ true → (kind_after last (r.New n) ≡ k.Next) × (next_name last ≡ n)
next-is last n is = next-is-by last n (same_name n (next_name last)) refl is

new-is-by : (b : Bool) → is_next_kind (if b then k.Next else k.New) ≡ false → (if b then k.Next else k.New) ≡ k.New
new-is-by true is = absurd (true≢false is)
new-is-by false is = refl

pub new-is : (last n : Name) → is_next_kind (kind_after last (r.New n)) ≡ false → kind_after last (r.New n) ≡ k.New
new-is last n is = new-is-by (same_name n (next_name last)) is

pub stands-at : (kinds kinds' : List ReplyKind) (names names' more : List Name) (numbers numbers' others : List ℕ) (last next : Name) (kind : ReplyKind) (reply : Reply) (fulls fulls' added : ℕ)
    → Stands kinds names numbers last fulls → kinds' ≡ kinds ++ kind ∷ [] → names' ≡ names ++ more → numbers' ≡ numbers ++ others
    → kind ≡ kind_after last reply → Makes last (kind_after last reply) more others reply next added → fulls' ≡ fulls + added
    → Stands kinds' names' numbers' next fulls' × (unpacked (name 0 0) kinds' names' numbers' ≡ unpacked (name 0 0) kinds names numbers ++ reply ∷ [])
stands-at kinds kinds' names names' more numbers numbers' others last next kind reply fulls fulls' added stands k n x is makes sum =
    rw (k, n, x, sum) (stands-more kinds names more numbers others last kind reply next fulls added stands (subst (λ (a : ReplyKind). Makes last a more others reply next added) (sym is) makes))

pub next-made : (last n : Name) (reply : Reply) → reply ≡ r.New n → is_next_kind (kind_after last reply) ≡ true → Makes last (kind_after last reply) [] [] reply n 0
next-made last n reply new is =
    let made : is_next_kind (kind_after last (r.New n)) ≡ true = subst (λ (x : Reply). is_next_kind (kind_after last x) ≡ true) new is in
    let by = next-is last n made in
    subst (λ (x : Reply). Makes last (kind_after last x) [] [] x n 0) (sym new)
    (subst (λ (kind : ReplyKind). Makes last kind [] [] (r.New n) n 0) (sym by.0) (record { made = ap r.New by.1; after = by.1; name_count = refl; number_count = refl; full_count = refl }))

pub new-made : (last n : Name) (reply : Reply) → reply ≡ r.New n → is_next_kind (kind_after last reply) ≡ false → Makes last (kind_after last reply) (n ∷ []) [] reply n 0
new-made last n reply new is =
    let made : is_next_kind (kind_after last (r.New n)) ≡ false = subst (λ (x : Reply). is_next_kind (kind_after last x) ≡ false) new is in
    subst (λ (x : Reply). Makes last (kind_after last x) (n ∷ []) [] x n 0) (sym new)
    (subst (λ (kind : ReplyKind). Makes last kind (n ∷ []) [] (r.New n) n 0) (sym (new-is last n made)) (record { made = refl; after = refl; name_count = refl; number_count = refl; full_count = refl }))

pub ref-made : (last n : Name) (reply : Reply) → reply ≡ r.Ref n → Makes last (kind_after last reply) (n ∷ []) [] reply last 0
ref-made last n reply is = subst (λ (x : Reply). Makes last (kind_after last x) (n ∷ []) [] x last 0) (sym is) (record { made = refl; after = refl; name_count = refl; number_count = refl; full_count = refl })

pub number-made : (last : Name) (x : ℕ) (reply : Reply) → reply ≡ r.Num x → Makes last (kind_after last reply) [] (x ∷ []) reply last 0
number-made last x reply is = subst (λ (y : Reply). Makes last (kind_after last y) [] (x ∷ []) y last 0) (sym is) (record { made = refl; after = refl; name_count = refl; number_count = refl; full_count = refl })

pub full-made : (last : Name) (reply : Reply) → reply ≡ r.Full → Makes last (kind_after last reply) [] [] reply last 1
full-made last reply is = subst (λ (x : Reply). Makes last (kind_after last x) [] [] x last 1) (sym is) (record { made = refl; after = refl; name_count = refl; number_count = refl; full_count = refl })

pub plain-made : (last : Name) (reply : Reply) → ((n : Name) → reply ≡ r.New n → ⊥) → ((n : Name) → reply ≡ r.Ref n → ⊥) → ((x : ℕ) → reply ≡ r.Num x → ⊥) → (reply ≡ r.Full → ⊥)
    → Makes last (kind_after last reply) [] [] reply last 0
plain-made last (r.New n) new ref num full = absurd (new n refl)
plain-made last (r.Ref n) new ref num full = absurd (ref n refl)
plain-made last (r.Num x) new ref num full = absurd (num x refl)
plain-made last r.Full new ref num full = absurd (full refl)
plain-made last r.Nil new ref num full = record { made = refl; after = refl; name_count = refl; number_count = refl; full_count = refl }
plain-made last r.Done new ref num full = record { made = refl; after = refl; name_count = refl; number_count = refl; full_count = refl }
plain-made last r.Yes new ref num full = record { made = refl; after = refl; name_count = refl; number_count = refl; full_count = refl }
plain-made last r.No new ref num full = record { made = refl; after = refl; name_count = refl; number_count = refl; full_count = refl }
plain-made last r.Null new ref num full = record { made = refl; after = refl; name_count = refl; number_count = refl; full_count = refl }
plain-made last r.Range new ref num full = record { made = refl; after = refl; name_count = refl; number_count = refl; full_count = refl }

-- no more parts than replies, if each has at most one
sum-most : (f : ReplyKind → ℕ) → ((kind : ReplyKind) → f kind ≤ 1) → (kinds : List ReplyKind) → sum_by f kinds ≤ length kinds
sum-most f most [] = omega arith
sum-most f most (kind ∷ kinds) =
    let one = most kind in
    let rest = sum-most f most kinds in
    let sum = sum_by-cons f kind kinds in
    omega (arith, one, rest, sum)

name-most : (kind : ReplyKind) → names_of_kind kind ≤ 1
name-most k.New = omega arith
name-most k.Full = omega arith
name-most k.Ref = omega arith
name-most k.Nil = omega arith
name-most k.Num = omega arith
name-most k.Done = omega arith
name-most k.Yes = omega arith
name-most k.No = omega arith
name-most k.Null = omega arith
name-most k.Range = omega arith
name-most k.Next = omega arith

number-most : (kind : ReplyKind) → numbers_in kind ≤ 1
number-most k.New = omega arith
number-most k.Full = omega arith
number-most k.Ref = omega arith
number-most k.Nil = omega arith
number-most k.Num = omega arith
number-most k.Done = omega arith
number-most k.Yes = omega arith
number-most k.No = omega arith
number-most k.Null = omega arith
number-most k.Range = omega arith
number-most k.Next = omega arith

pub parts-most : (kinds : List ReplyKind) (names : List Name) (numbers : List ℕ) → HasParts kinds names numbers
    → (length names ≤ length kinds) × (length numbers ≤ length kinds)
parts-most kinds names numbers has =
    let n = has.name_count in
    let m = has.number_count in
    let names_few = sum-most names_of_kind name-most kinds in
    let numbers_few = sum-most numbers_in number-most kinds in
    (omega (arith, n, names_few), omega (arith, m, numbers_few))

-- a reply is `full` where its kind is
full-kind : (last : Name) (kind : ReplyKind) (names : List Name) (numbers : List ℕ) → is_full (first_reply last kind names numbers) ≡ is_full_kind kind
full-kind last k.New names numbers = refl
full-kind last k.Full names numbers = refl
full-kind last k.Ref names numbers = refl
full-kind last k.Nil names numbers = refl
full-kind last k.Num names numbers = refl
full-kind last k.Done names numbers = refl
full-kind last k.Yes names numbers = refl
full-kind last k.No names numbers = refl
full-kind last k.Null names numbers = refl
full-kind last k.Range names numbers = refl
full-kind last k.Next names numbers = refl

pub full-kinds : (last : Name) (kinds : List ReplyKind) (names : List Name) (numbers : List ℕ) → count_by is_full (unpacked last kinds names numbers) ≡ count_by is_full_kind kinds
full-kinds last [] names numbers = refl
full-kinds last (kind ∷ kinds) names numbers =
    let following : Name = last_after last kind names in
    let more : List Name = drop (names_of_kind kind) names in
    let others : List ℕ = drop (numbers_in kind) numbers in
    sum_by-cons (λ reply. cond (is_full reply) 1 0) (first_reply last kind names numbers) (unpacked following kinds more others)
    ∙ ap (λ b. cond b 1 0 + count_by is_full (unpacked following kinds more others)) (full-kind last kind names numbers)
    ∙ ap (λ n. cond (is_full_kind kind) 1 0 + n) (full-kinds following kinds more others)
    ∙ sym (sum_by-cons (λ x. cond (is_full_kind x) 1 0) kind kinds)

-- a reply has the index of the kind that it was stored with
index-same : (last : Name) (kind : ReplyKind) (names : List Name) (numbers : List ℕ) → kind_index (kind_of (first_reply last kind names numbers)) ≡ kind_index kind
index-same last k.New names numbers = refl
index-same last k.Next names numbers = refl
index-same last k.Full names numbers = refl
index-same last k.Ref names numbers = refl
index-same last k.Nil names numbers = refl
index-same last k.Num names numbers = refl
index-same last k.Done names numbers = refl
index-same last k.Yes names numbers = refl
index-same last k.No names numbers = refl
index-same last k.Null names numbers = refl
index-same last k.Range names numbers = refl

pub counted-kinds : (i : ℕ) (last : Name) (kinds : List ReplyKind) (names : List Name) (numbers : List ℕ) → count_by (is_of_kind i) (unpacked last kinds names numbers) ≡ count_by (is_of_index i) kinds
counted-kinds i last [] names numbers = refl
counted-kinds i last (kind ∷ kinds) names numbers =
    let following : Name = last_after last kind names in
    let more : List Name = drop (names_of_kind kind) names in
    let others : List ℕ = drop (numbers_in kind) numbers in
    sum_by-cons (λ reply. cond (is_of_kind i reply) 1 0) (first_reply last kind names numbers) (unpacked following kinds more others)
    ∙ ap (λ x. cond (nat_eq x i) 1 0 + count_by (is_of_kind i) (unpacked following kinds more others)) (index-same last kind names numbers)
    ∙ ap (λ n. cond (is_of_index i kind) 1 0 + n) (counted-kinds i following kinds more others)
    ∙ sym (sum_by-cons (λ x. cond (is_of_index i x) 1 0) kind kinds)

-- the numbers in replies are those that are stored
first-number : (last : Name) (kind : ReplyKind) (names : List Name) (numbers : List ℕ) → numbers_in kind ≤ length numbers
    → number_replied (first_reply last kind names numbers) + sum (drop (numbers_in kind) numbers) ≡ sum numbers
first-number last k.Num names (x ∷ numbers) has = sym (sum_by-cons (λ y. y) x numbers)
first-number last k.Num names [] has = absurd (omega (arith, has))
first-number last k.New names numbers has = omega arith
first-number last k.Full names numbers has = omega arith
first-number last k.Ref names numbers has = omega arith
first-number last k.Nil names numbers has = omega arith
first-number last k.Done names numbers has = omega arith
first-number last k.Yes names numbers has = omega arith
first-number last k.No names numbers has = omega arith
first-number last k.Null names numbers has = omega arith
first-number last k.Range names numbers has = omega arith
first-number last k.Next names numbers has = omega arith

pub numbers-summed : (last : Name) (kinds : List ReplyKind) (names : List Name) (numbers : List ℕ) → HasParts kinds names numbers
    → sum_by number_replied (unpacked last kinds names numbers) ≡ sum numbers
numbers-summed last [] names [] has = refl
numbers-summed last [] names (x ∷ numbers) has = let wrong : 0 ≡ length (x ∷ numbers) = has.number_count in absurd (omega (arith, wrong))
numbers-summed last (kind ∷ kinds) names numbers has =
    let following : Name = last_after last kind names in
    let more : List Name = drop (names_of_kind kind) names in
    let others : List ℕ = drop (numbers_in kind) numbers in
    let rest = rest-has kind kinds names numbers has in
    sum_by-cons number_replied (first_reply last kind names numbers) (unpacked following kinds more others)
    ∙ ap (λ n. number_replied (first_reply last kind names numbers) + n) (numbers-summed following kinds more others rest.2)
    ∙ first-number last kind names numbers rest.1
