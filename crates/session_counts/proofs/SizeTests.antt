-- There are sizes for objects and blocks exactly where the test says so.
use Rattle.std.proofs.Common.{◌≡◌, refl, sym, ◌∙◌, ap, subst, ℕ, zero, suc, ◌+◌, ◌-◌, ◌*◌, ◌/◌, ◌<◌, ◌≤◌, arith, inl, inr, Bool, true, false, ◌&&◌, nat_le, List, [], ◌∷◌, length}
use Rattle.std.specs.Prelude.{if◌then◌else◌, slice_index_or}
use Rattle.std.specs.List.{AllByRecursion, list_any, range_with_len, sum_by}
use Rattle.std.proofs.lemmas.Bool.{and_from, and_parts, cases_Bool, cases_lt, le-leb, leb-false, leb-true, true≢false}
use Rattle.std.proofs.lemmas.List.Folds.{Any-from_list_any, list_any_at}
use Rattle.std.proofs.lemmas.List.FromFn.{get_or-range_with_len, length-range_with_len}
use Rattle.std.proofs.lemmas.List.Sums.{sum_by-cons}
use Rattle.session_counts.specs.Sizes.{AreSizes, IsSize, least_words, may_be_large, may_fill, most_words, own_blocks, shared_blocks}

-- what the sizes of `k` large objects and `n` others add up to
record Adds (k n words large : ℕ) : Type 0 where
  few : k ≤ large
  many : large ≤ 15 * k
  least : 4096 * large + 3 * n ≤ words + 4095 * k
  more : 2048 * large + k + 3 * n ≤ words
  most : words ≤ 4096 * large + 2048 * n
  spare : words ≤ 3683 * large + 5782 * k + 2048 * n

-- one size, as a large object or as another one
record One (size : ℕ) : Type 0 where
  k : ℕ
  n : ℕ
  one : k + n ≡ 1
  shared : shared_blocks size ≡ n
  adds : Adds k n size (own_blocks size)

one-small : (size : ℕ) → IsSize size → nat_le size 2048 ≡ true → One size
one-small size is few =
    let least : 3 ≤ size = is.least in
    let most : size ≤ 2048 = leb-true size 2048 few in
    let none : own_blocks size ≡ 0 = ap (λ b. if b then 0 else (size + 4095) / 4096) few in
    record {
      k = 0;
      n = 1;
      one = refl;
      shared = ap (λ b. if b then 1 else 0) few;
      adds = record {
        few = omega (arith, none);
        many = omega (arith, none);
        least = omega (arith, none, least);
        more = omega (arith, none, least);
        most = omega (arith, none, most);
        spare = omega (arith, none, most);
      };
    }

one-large : (size : ℕ) → IsSize size → nat_le size 2048 ≡ false → One size
one-large size is big =
    let least : 2048 < size = leb-false size 2048 big in
    let most : size ≤ 61027 = is.most in
    let own : own_blocks size ≡ (size + 4095) / 4096 = ap (λ b. if b then 0 else (size + 4095) / 4096) big in
    record {
      k = 1;
      n = 0;
      one = refl;
      shared = ap (λ b. if b then 1 else 0) big;
      adds = record {
        few = omega (arith, own, least);
        many = omega (arith, own, most);
        least = omega (arith, own, least, most);
        more = omega (arith, own, least, most);
        most = omega (arith, own, least, most);
        spare = omega (arith, own, least, most);
      };
    }

one-of : (size : ℕ) → IsSize size → One size
one-of size is = elim (cases_Bool (nat_le size 2048)) as (λ _. One size) [ inl few ↦ one-small size is few | inr big ↦ one-large size is big ]

-- a list of sizes
record Total (sizes : List ℕ) : Type 0 where
  k : ℕ
  n : ℕ
  count : length sizes ≡ k + n
  shared : sum_by shared_blocks sizes ≡ n
  adds : Adds k n (sum_by (λ size. size) sizes) (sum_by own_blocks sizes)

both : (a b c d e f g h w x : ℕ) → Adds a b c d → Adds e f g h → w ≡ c + g → x ≡ d + h → Adds (a + e) (b + f) w x
both a b c d e f g h w x one two words blocks =
    let a1 = one.few in
    let a2 = one.many in
    let a3 = one.least in
    let a4 = one.more in
    let a5 = one.most in
    let a6 = one.spare in
    let b1 = two.few in
    let b2 = two.many in
    let b3 = two.least in
    let b4 = two.more in
    let b5 = two.most in
    let b6 = two.spare in
    record {
      few = omega (arith, a1, b1, blocks);
      many = omega (arith, a2, b2, blocks);
      least = omega (arith, a3, b3, words, blocks);
      more = omega (arith, a4, b4, words, blocks);
      most = omega (arith, a5, b5, words, blocks);
      spare = omega (arith, a6, b6, words, blocks);
    }

total : (sizes : List ℕ) → AllByRecursion IsSize sizes → Total sizes
total [] each = record {
  k = 0;
  n = 0;
  count = refl;
  shared = refl;
  adds = record { few = omega arith; many = omega arith; least = omega arith; more = omega arith; most = omega arith; spare = omega arith };
}
total (size ∷ sizes) each =
    let one = one-of size each.0 in
    let rest = total sizes each.1 in
    let is : one.k + one.n ≡ 1 = one.one in
    let count : length sizes ≡ rest.k + rest.n = rest.count in
    let own : shared_blocks size ≡ one.n = one.shared in
    let later : sum_by shared_blocks sizes ≡ rest.n = rest.shared in
    let all : sum_by shared_blocks (size ∷ sizes) ≡ shared_blocks size + sum_by shared_blocks sizes = sum_by-cons shared_blocks size sizes in
    record {
      k = one.k + rest.k;
      n = one.n + rest.n;
      count = omega (arith, is, count);
      shared = omega (arith, own, later, all);
      adds = both one.k one.n size (own_blocks size) rest.k rest.n (sum_by (λ m. m) sizes) (sum_by own_blocks sizes) (sum_by (λ m. m) (size ∷ sizes)) (sum_by own_blocks (size ∷ sizes))
          one.adds rest.adds (sum_by-cons (λ m. m) size sizes) (sum_by-cons own_blocks size sizes);
    }

-- the sizes are those of objects
each-bounded : (sizes : List ℕ) → AllByRecursion IsSize sizes → (3 * length sizes ≤ sum_by (λ m. m) sizes) × (sum_by (λ m. m) sizes ≤ 61027 * length sizes)
each-bounded [] each = (omega arith, omega arith)
each-bounded (size ∷ sizes) each =
    let least = each.0.least in
    let most = each.0.most in
    let rest = each-bounded sizes each.1 in
    let low = rest.0 in
    let high = rest.1 in
    let sum = sum_by-cons (λ m. m) size sizes in
    (omega (arith, least, low, sum), omega (arith, most, high, sum))

pub bounded : (objects words large small : ℕ) (sizes : List ℕ) → AreSizes objects words large small sizes → (3 * objects ≤ words) × (words ≤ 61027 * objects)
bounded objects words large small sizes are =
    let all = each-bounded sizes are.each in
    let low = all.0 in
    let high = all.1 in
    let count : length sizes ≡ objects = are.count in
    let sum : sum_by (λ m. m) sizes ≡ words = are.sum in
    (omega (arith, low, count, sum), omega (arith, high, count, sum))

-- the test for one number of large objects
passes : (objects words large small k n : ℕ) → objects ≡ k + n → small ≤ n → Adds k n words large → may_be_large objects words large small k ≡ true
passes objects words large small k n count some adds =
    let a1 = adds.few in
    let a2 = adds.many in
    let a3 = adds.least in
    let a4 = adds.more in
    let a5 = adds.most in
    let a6 = adds.spare in
    and_from _ _ (and_from _ _ (and_from _ _ (and_from _ _ (le-leb k large a1) (le-leb large (15 * k) a2)) (le-leb (k + small) objects (omega (arith, count, some))))
    (le-leb (least_words k large + 3 * (objects - k)) words (omega (arith, count, a1, a2, a3, a4))))
    (le-leb words (most_words k large + 2048 * (objects - k)) (omega (arith, count, a1, a2, a5, a6)))

record Passed (objects words large small k : ℕ) : Type 0 where
  count : k + small ≤ objects
  adds : Adds k (objects - k) words large

passed : (objects words large small k : ℕ) → may_be_large objects words large small k ≡ true → Passed objects words large small k
passed objects words large small k is =
    let last = and_parts (nat_le k large && nat_le large (15 * k) && nat_le (k + small) objects && nat_le (least_words k large + 3 * (objects - k)) words) (nat_le words (most_words k large + 2048 * (objects - k))) is in
    let four = and_parts (nat_le k large && nat_le large (15 * k) && nat_le (k + small) objects) (nat_le (least_words k large + 3 * (objects - k)) words) last.0 in
    let three = and_parts (nat_le k large && nat_le large (15 * k)) (nat_le (k + small) objects) four.0 in
    let two = and_parts (nat_le k large) (nat_le large (15 * k)) three.0 in
    let few : k ≤ large = leb-true k large two.0 in
    let many : large ≤ 15 * k = leb-true large (15 * k) two.1 in
    let count : k + small ≤ objects = leb-true (k + small) objects three.1 in
    let least : least_words k large + 3 * (objects - k) ≤ words = leb-true (least_words k large + 3 * (objects - k)) words four.1 in
    let most : words ≤ most_words k large + 2048 * (objects - k) = leb-true words (most_words k large + 2048 * (objects - k)) last.1 in
    record {
      count = count;
      adds = record {
        few = few;
        many = many;
        least = omega (arith, few, many, least);
        more = omega (arith, few, many, least);
        most = omega (arith, few, many, most);
        spare = omega (arith, few, many, most);
      };
    }

any-passes : (test : ℕ → Bool) (n k : ℕ) → k ≤ n → test k ≡ true → list_any test (range_with_len 0 (n + 1)) ≡ true
any-passes test n k low is =
    let few : k < n + 1 = omega (arith, low) in
    let at : slice_index_or (range_with_len 0 (n + 1)) k 0 ≡ 0 + k = get_or-range_with_len 0 (n + 1) k 0 few in
    let same : 0 + k ≡ k = omega arith in
    list_any_at test (range_with_len 0 (n + 1)) k 0 (subst (λ (m : ℕ). k < m) (sym (length-range_with_len 0 (n + 1))) few) (ap test (at ∙ same) ∙ is)

pub tested : (objects words large small : ℕ) (sizes : List ℕ) → AreSizes objects words large small sizes → may_fill objects words large small ≡ true
unfolding may_fill
tested objects words large small sizes are =
    let all = total sizes are.each in
    let count : length sizes ≡ all.k + all.n = all.count in
    let is : length sizes ≡ objects = are.count in
    let sum : sum_by (λ m. m) sizes ≡ words = are.sum in
    let own : sum_by own_blocks sizes ≡ large = are.own in
    let adds : Adds all.k all.n words large = subst (λ w. Adds all.k all.n w large) sum (subst (λ l. Adds all.k all.n (sum_by (λ m. m) sizes) l) own all.adds) in
    let shared : sum_by shared_blocks sizes ≡ all.n = all.shared in
    let some : small ≤ sum_by shared_blocks sizes = are.shared in
    let few : all.k ≤ large = adds.few in
    any-passes (may_be_large objects words large small) large all.k few (passes objects words large small all.k all.n (omega (arith, count, is)) (omega (arith, shared, some)) adds)

-- sizes of no large object
record Sized (k n words large : ℕ) : Type 0 where
  sizes : List ℕ
  each : AllByRecursion IsSize sizes
  count : length sizes ≡ k + n
  sum : sum_by (λ m. m) sizes ≡ words
  own : sum_by own_blocks sizes ≡ large
  shared : sum_by shared_blocks sizes ≡ n

small-more : (size n words : ℕ) → 3 ≤ size → size ≤ 2048 → Sized 0 n words 0 → Sized 0 (suc n) (size + words) 0
small-more size n words least most rest =
    let few : nat_le size 2048 ≡ true = le-leb size 2048 most in
    let own : own_blocks size ≡ 0 = ap (λ b. if b then 0 else (size + 4095) / 4096) few in
    let shared : shared_blocks size ≡ 1 = ap (λ b. if b then 1 else 0) few in
    let c = rest.count in
    let s = rest.sum in
    let o = rest.own in
    let h = rest.shared in
    let s1 = sum_by-cons (λ m. m) size rest.sizes in
    let o1 = sum_by-cons own_blocks size rest.sizes in
    let h1 = sum_by-cons shared_blocks size rest.sizes in
    record {
      sizes = size ∷ rest.sizes;
      each = (record { least = least; most = omega (arith, most) }, rest.each);
      count = omega (arith, c);
      sum = omega (arith, s, s1);
      own = omega (arith, o, o1, own);
      shared = omega (arith, h, h1, shared);
    }

small-sizes : (n words : ℕ) → 3 * n ≤ words → words ≤ 2048 * n → Sized 0 n words 0
small-sizes zero words least most = record { sizes = []; each = tt; count = refl; sum = omega (arith, most); own = refl; shared = refl }
small-sizes (suc n) words least most = elim (cases_lt (3 * n + 2048) words) as (λ _. Sized 0 (suc n) words 0) [
  | inl more ↦ (
      let same : 2048 + (words - 2048) ≡ words = omega (arith, more) in
      subst (λ w. Sized 0 (suc n) w 0) same (small-more 2048 n (words - 2048) (omega arith) (omega arith) (small-sizes n (words - 2048) (omega (arith, more)) (omega (arith, most)))))
  | inr few ↦ (
      let same : words - 3 * n + 3 * n ≡ words = omega (arith, least) in
      subst (λ w. Sized 0 (suc n) w 0) same (small-more (words - 3 * n) n (3 * n) (omega (arith, least)) (omega (arith, few)) (small-sizes n (3 * n) (omega arith) (omega arith))))
]

large-more : (size k n words large : ℕ) → 2048 < size → size ≤ 61027 → Sized k n words large → Sized (suc k) n (size + words) (own_blocks size + large)
large-more size k n words large least most rest =
    let big : nat_le size 2048 ≡ false = elim (cases_Bool (nat_le size 2048)) as (λ _. nat_le size 2048 ≡ false) [
      | inl is ↦ absurd (let low : size ≤ 2048 = leb-true size 2048 is in omega (arith, low, least))
      | inr off ↦ off
    ] in
    let shared : shared_blocks size ≡ 0 = ap (λ b. if b then 1 else 0) big in
    let c = rest.count in
    let s = rest.sum in
    let o = rest.own in
    let h = rest.shared in
    let s1 = sum_by-cons (λ m. m) size rest.sizes in
    let o1 = sum_by-cons own_blocks size rest.sizes in
    let h1 = sum_by-cons shared_blocks size rest.sizes in
    record {
      sizes = size ∷ rest.sizes;
      each = (record { least = omega (arith, least); most = most }, rest.each);
      count = omega (arith, c);
      sum = omega (arith, s, s1);
      own = omega (arith, o, o1);
      shared = omega (arith, h, h1, shared);
    }

-- a large object of so many blocks, and what is left for the others
record First (k n words large : ℕ) : Type 0 where
  size : ℕ
  big : 2048 < size
  most : size ≤ 61027
  blocks : ℕ
  are : (size + 4095) / 4096 ≡ blocks
  fits : blocks ≤ large
  within : size ≤ words
  rest : Adds k n (words - size) (large - blocks)

-- How a large object of so many blocks may begin: it has `low` to `high` words, and the others may have `bottom` to `top`.
record Begins (k n words large blocks : ℕ) : Type 0 where
  low : ℕ
  high : ℕ
  bottom : ℕ
  top : ℕ
  big : 2048 < low
  order : low ≤ high
  at : (low + 4095) / 4096 ≡ blocks
  within : high ≤ 4096 * blocks
  most : high ≤ 61027
  fits : blocks ≤ large
  from : bottom + low ≤ words
  ends : words ≤ top + high
  some : bottom ≤ top
  between : (w : ℕ) → bottom ≤ w → w ≤ top → Adds k n w (large - blocks)

-- the size is the least for its blocks, or what the others can't have
first-of : (k n words large blocks : ℕ) → Begins k n words large blocks → First k n words large
first-of k n words large blocks b =
    let low : ℕ = b.low in
    let high : ℕ = b.high in
    let bottom : ℕ = b.bottom in
    let top : ℕ = b.top in
    let big : 2048 < low = b.big in
    let order : low ≤ high = b.order in
    let at : (low + 4095) / 4096 ≡ blocks = b.at in
    let within : high ≤ 4096 * blocks = b.within in
    let most : high ≤ 61027 = b.most in
    let from : bottom + low ≤ words = b.from in
    let ends : words ≤ top + high = b.ends in
    let some : bottom ≤ top = b.some in
    elim (cases_lt (top + low) words) as (λ _. First k n words large) [
      | inl more ↦ record {
        size = words - top;
        big = omega (arith, more, big);
        most = omega (arith, ends, most);
        blocks = blocks;
        are = omega (arith, more, ends, at, within);
        fits = b.fits;
        within = omega arith;
        rest = b.between (words - (words - top)) (omega (arith, more, some)) (omega (arith, more));
      }
      | inr few ↦ record {
        size = low;
        big = big;
        most = omega (arith, order, most);
        blocks = blocks;
        are = at;
        fits = b.fits;
        within = omega (arith, from);
        rest = b.between (words - low) (omega (arith, from)) (omega (arith, few));
      }
    ]

-- one block
begins-one : (k n words large : ℕ) → Adds (suc k) n words large → large ≤ 2 * k + 1 → Begins k n words large 1
begins-one k n words large adds low =
    let few = adds.few in
    let more = adds.more in
    let most = adds.most in
    record {
      low = 2049;
      high = 4096;
      bottom = 2048 * (large - 1) + k + 3 * n;
      top = 4096 * (large - 1) + 2048 * n;
      big = omega arith;
      order = omega arith;
      at = refl;
      within = omega arith;
      most = omega arith;
      fits = omega (arith, few);
      from = omega (arith, few, more);
      ends = omega (arith, few, most);
      some = omega (arith, few);
      between = λ w from below. record {
        few = omega (arith, few);
        many = omega (arith, few, low);
        least = omega (arith, few, low, from);
        more = omega (arith, few, low, from);
        most = omega (arith, below);
        spare = omega (arith, few, low, below);
      };
    }

-- 2 to 14 blocks
begins-some : (k n words large blocks : ℕ) → Adds (suc k) n words large → 2 ≤ blocks → blocks ≤ 14 → 2 * k + blocks ≤ large → large ≤ 14 * k + blocks → Begins k n words large blocks
begins-some k n words large blocks adds two short low high =
    let least = adds.least in
    let most = adds.most in
    record {
      low = 4096 * (blocks - 1) + 1;
      high = 4096 * blocks;
      bottom = 4096 * (large - blocks) - 4095 * k + 3 * n;
      top = 4096 * (large - blocks) + 2048 * n;
      big = omega (arith, two);
      order = omega (arith, two);
      at = omega (arith, two);
      within = omega arith;
      most = omega (arith, short);
      fits = omega (arith, low);
      from = omega (arith, two, low, least);
      ends = omega (arith, low, most);
      some = omega arith;
      between = λ w from below. record {
        few = omega (arith, low);
        many = omega (arith, high);
        least = omega (arith, low, from);
        more = omega (arith, low, from);
        most = omega (arith, below);
        spare = omega (arith, high, below);
      };
    }

-- 15 blocks
begins-longest : (k n words large : ℕ) → Adds (suc k) n words large → 14 * k + 15 ≤ large → Begins k n words large 15
begins-longest k n words large adds low =
    let many = adds.many in
    let least = adds.least in
    let spare = adds.spare in
    record {
      low = 57345;
      high = 61027;
      bottom = 4096 * (large - 15) - 4095 * k + 3 * n;
      top = 3683 * (large - 15) + 5782 * k + 2048 * n;
      big = omega arith;
      order = omega arith;
      at = refl;
      within = omega arith;
      most = omega arith;
      fits = omega (arith, low);
      from = omega (arith, low, least);
      ends = omega (arith, low, spare);
      some = omega (arith, low, many);
      between = λ w from below. record {
        few = omega (arith, low);
        many = omega (arith, many);
        least = omega (arith, low, from);
        more = omega (arith, low, from);
        most = omega (arith, low, below);
        spare = omega (arith, below);
      };
    }

first : (k n words large : ℕ) → Adds (suc k) n words large → First k n words large
first k n words large adds =
    let many = adds.many in
    elim (cases_lt (2 * k + 1) large) as (λ _. First k n words large) [
      | inr low ↦ first-of k n words large 1 (begins-one k n words large adds low)
      | inl more ↦ elim (cases_lt (14 * k + 14) large) as (λ _. First k n words large) [
        | inl long ↦ first-of k n words large 15 (begins-longest k n words large adds (omega (arith, long)))
        | inr short ↦ elim (cases_lt (2 * k + 14) large) as (λ _. First k n words large) [
          | inl some ↦ first-of k n words large 14 (begins-some k n words large 14 adds (omega arith) (omega arith) (omega (arith, some)) (omega (arith, short)))
          | inr few ↦ first-of k n words large (large - 2 * k) (begins-some k n words large (large - 2 * k) adds (omega (arith, more)) (omega (arith, few)) (omega (arith, more)) (omega (arith, more)))
        ]
      ]
    ]

sized : (k n words large : ℕ) → Adds k n words large → Sized k n words large
sized zero n words large adds =
    let many = adds.many in
    let least = adds.least in
    let most = adds.most in
    let none : 0 ≡ large = omega (arith, many) in
    subst (λ l. Sized 0 n words l) none (small-sizes n words (omega (arith, least)) (omega (arith, most, many)))
sized (suc k) n words large adds =
    let f = first k n words large adds in
    let within : f.size ≤ words = f.within in
    let fits : f.blocks ≤ large = f.fits in
    let big : nat_le f.size 2048 ≡ false = elim (cases_Bool (nat_le f.size 2048)) as (λ _. nat_le f.size 2048 ≡ false) [
      | inl is ↦ absurd (let low : f.size ≤ 2048 = leb-true f.size 2048 is in let high = f.big in omega (arith, low, high))
      | inr off ↦ off
    ] in
    let own : own_blocks f.size ≡ f.blocks = ap (λ b. if b then 0 else (f.size + 4095) / 4096) big ∙ f.are in
    let all-words : f.size + (words - f.size) ≡ words = omega (arith, within) in
    let all-blocks : own_blocks f.size + (large - f.blocks) ≡ large = omega (arith, own, fits) in
    subst (λ w. Sized (suc k) n w large) all-words (subst (λ l. Sized (suc k) n (f.size + (words - f.size)) l) all-blocks
    (large-more f.size k n (words - f.size) (large - f.blocks) f.big f.most (sized k n (words - f.size) (large - f.blocks) f.rest)))

pub found : (objects words large small : ℕ) → may_fill objects words large small ≡ true → (sizes : List ℕ) × AreSizes objects words large small sizes
unfolding may_fill
found objects words large small is =
    let some = Any-from_list_any (may_be_large objects words large small) (range_with_len 0 (large + 1)) is in
    let k : ℕ = some.1 in
    let pass = passed objects words large small k some.4 in
    let all = sized k (objects - k) words large pass.adds in
    let count : k + small ≤ objects = pass.count in
    let long : length all.sizes ≡ k + (objects - k) = all.count in
    let shared : sum_by shared_blocks all.sizes ≡ objects - k = all.shared in (
      all.sizes,
      record {
        each = all.each;
        count = omega (arith, count, long);
        sum = all.sum;
        own = all.own;
        shared = omega (arith, count, shared);
      },
    )

-- a search over all numbers of large objects
pub searched : (b : Bool) (objects words large small : ℕ) → (b ≡ true → (k : ℕ) × (k ≤ large) × (may_be_large objects words large small k ≡ true))
    → (b ≡ false → (k : ℕ) → k ≤ large → may_be_large objects words large small k ≡ false) → b ≡ may_fill objects words large small
unfolding may_fill
searched true objects words large small found none = let k = found refl in sym (any-passes (may_be_large objects words large small) large k.0 k.1 k.2)
searched false objects words large small found none = elim (cases_Bool (list_any (may_be_large objects words large small) (range_with_len 0 (large + 1)))) as (λ _. false ≡ list_any (may_be_large objects words large small) (range_with_len 0 (large + 1))) [
  | inr off ↦ sym off
  | inl is ↦ absurd (
      let some = Any-from_list_any (may_be_large objects words large small) (range_with_len 0 (large + 1)) is in
      let few : some.0 < large + 1 = subst (λ (m : ℕ). some.0 < m) (length-range_with_len 0 (large + 1)) some.2 in
      let at : 0 + some.0 ≡ some.1 = sym (get_or-range_with_len 0 (large + 1) some.0 some.1 few) ∙ some.3 in
      true≢false (sym some.4 ∙ none refl some.1 (omega (arith, few, at))))
]
