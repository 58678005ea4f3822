-- What the values of right lines keep to, and what columns of such lines say.
use Rattle.std.proofs.Common.{◌≡◌, ◌↔◌, ℕ, zero, suc, ◌+◌, ◌-◌, ◌*◌, ◌/◌, ◌%◌, ◌<◌, ◌≤◌, ◌==◌, ◌&&◌, Bool, true, false, nat_le, List, [], ◌∷◌, ◌++◌, length, take, drop, replicate, Option, Some, None, option_map, Result, Ok, Err, refl, sym, ◌∙◌, ap, subst, arith, codes, inl, inr, if◌then◌else◌}
use Rattle.std.specs.List.{AllByRecursion}
use Rattle.std.specs.Str.{bytes_eq}
use Rattle.std.proofs.lemmas.Bool.{and_parts, leb-true, eqb-true, eq-eqb, both_ways}
use Rattle.std.proofs.lemmas.Option.{option_and_then_some}
use Rattle.std.proofs.Math.Seq.{drop-append_seam}
use Rattle.std.proofs.lemmas.Slice.Eq.{bytes_eq-Decides}
use Rattle.hex.specs.declared.error.FromHexError.TheVariants.{OddLength, InvalidStringLength}
use Rattle.hex.specs.Hex.{decode_of, decode_sized, decode_pairs}
use Rattle.hex.proofs.HexLemmas.{decode_of-ok, decode_sized-twice}
use Rattle.ritas_base.specs.Limits.{longest_payload}
use Rattle.ritas_base.specs.Numbers.{Numbers}
use Rattle.ritas_base.specs.RootServices.{most_root}
use Rattle.ritas_base.specs.Slots.{is_atomic}
use Rattle.ritas_base.specs.declared.mode.FrameVersion.{FrameVersion}
use Rattle.ritas_base.specs.declared.mode.FrameVersion.TheVariants.{One, Two, Three}
use Rattle.cluster_config.specs.declared.requests.Request.{Request}
use Rattle.cluster_config.specs.declared.submit.SubmitConfig.{SubmitConfig}
use Rattle.cluster_config.specs.declared.watch.WatchConfig.{WatchConfig}
use Rattle.cluster_config.specs.Values.{numeral, if_within, number_in, numbers_of, numbers_in, version_in, if_ok, key_in, keys_in, row_in, number_before, payload_in, request_of_line}
use Rattle.cluster_config.specs.Cuts.{cut_at}
use Rattle.cluster_config.specs.Columns.{BeginsWith, Column, is_one_line, lines_of, lines_up_to, read_text, IsText}
use Rattle.cluster_config.specs.Front.{session_lines, numbers_lines, copies_line, journal_line}
use Rattle.cluster_config.specs.Drive.{Planned, drive_column}
use Rattle.cluster_config.specs.Node.{NodeText, node_column}
use Rattle.cluster_config.specs.Cluster.{ClusterText, cluster_column}
use Rattle.cluster_config.specs.Submit.{submit_column}
use Rattle.cluster_config.specs.Watch.{watch_column}
use Rattle.cluster_config.specs.Ranges.{StartsWith, IsVersionOf, FitsPlan, FitsNode, FitsCluster, FitsSubmit, FitsWatch}
use Rattle.cluster_config.proofs.Columns.{read_right}

-- ---- values
some_if : {A : Type 0} (b : Bool) (o : Option A) (x : A) → (if b then o else None) ≡ Some x → (b ≡ true) × (o ≡ Some x)
some_if true o x e = (refl, e)
some_if false o x e = absurd cc

the_one : {A : Type 0} (x y : A) → Some x ≡ Some y → x ≡ y
the_one x y e = cc

within : (low high n x : ℕ) → if_within low high n ≡ Some x → (low ≤ x) × (x ≤ high)
within low high n x e =
    let test = some_if (nat_le low n && nat_le n high) (Some n) x e in
    let parts = and_parts (nat_le low n) (nat_le n high) test.0 in
    let same = the_one n x test.1 in
    let above = leb-true low n parts.0 in
    let below = leb-true n high parts.1 in
    (omega (arith, same, above), omega (arith, same, below))

number_range : (low high : ℕ) (text : List ℕ) (x : ℕ) → number_in low high text ≡ Some x → (low ≤ x) × (x ≤ high)
number_range low high text x e = option_and_then_some (if_within low high) (numeral text) x e (λ n is f. within low high n x f)

some_of : (n f : ℕ) (p : Numbers) → numbers_of n f ≡ Some p → 1 ≤ p.n
some_of n f p e =
    let test = some_if (nat_le (3 * f + 1) n) (Some (record { n = n; f = f })) p e in
    let enough = leb-true (3 * f + 1) n test.0 in
    let same : n ≡ p.n = ap (λ (q : Numbers). q.n) (the_one (record { n = n; f = f }) p test.1) in
    omega (arith, enough, same)

some_replica : (n : ℕ) (text : List ℕ) (p : Numbers) → numbers_in n text ≡ Some p → 1 ≤ p.n
some_replica n text p e = option_and_then_some (numbers_of n) (numeral text) p e (λ f is g. some_of n f p g)

keys_many : (n : ℕ) (text : List ℕ) (keys : List (List ℕ)) → keys_in n text ≡ Some keys → length keys ≡ n
keys_many zero [] keys e = sym (ap (λ (l : List (List ℕ)). length l) (the_one [] keys e))
keys_many zero (b ∷ bs) keys e = absurd cc
keys_many (suc k) text keys e =
    option_and_then_some _ (key_in (take 64 text)) keys e (λ key is f.
    option_and_then_some _ (keys_in k (drop 64 text)) keys f (λ more was g.
    sym (ap (λ (l : List (List ℕ)). length l) (the_one (key ∷ more) keys g)) ∙ ap suc (keys_many k (drop 64 text) more was)))

row_rest : (n : ℕ) (text : List ℕ) (row : List (List ℕ)) → row_in n text ≡ Some row → drop n row ≡ replicate (31 - n) (replicate 32 0)
row_rest n text row e = go (keys_in n text) refl e
  where
    go : (o : Option (List (List ℕ))) → keys_in n text ≡ o → option_map (λ keys. keys ++ replicate (31 - n) (replicate 32 0)) o ≡ Some row → drop n row ≡ replicate (31 - n) (replicate 32 0)
    go None is f = absurd cc
    go (Some keys) is f =
        let rest : List (List ℕ) = replicate (31 - n) (replicate 32 0) in
        let same = the_one (keys ++ rest) row f in
        ap (λ (l : List (List ℕ)). drop n l) (sym same)
        ∙ ap (λ (k : ℕ). drop k (keys ++ rest)) (sym (keys_many n text keys is))
        ∙ drop-append_seam keys rest

-- a key has 32 bytes
sized_long : (text key : List ℕ) → decode_sized text 32 ≡ Ok key → length key ≡ 32
sized_long text key e = go (length text % 2 == 1) refl (length text / 2 == 32) refl e
  where
    go : (a : Bool) → (length text % 2 == 1) ≡ a → (b : Bool) → (length text / 2 == 32) ≡ b
        → (if a then Err OddLength else if b then decode_pairs 0 text else Err InvalidStringLength) ≡ Ok key → length key ≡ 32
    go true odd b half f = absurd cc
    go false even true half f =
        let apart : length text % 2 ≡ 1 → ⊥ = λ one. both_ways (length text % 2 == 1) even (eq-eqb (length text % 2) 1 one) in
        let twice : length text ≡ 2 * 32 = omega (arith, apart, eqb-true (length text / 2) 32 half) in
        let whole = (decode_of-ok text key (sym (decode_sized-twice text 32 twice) ∙ e)).2 in
        omega (arith, whole, twice)
    go false even false half f = absurd cc

key_long : (text key : List ℕ) → key_in text ≡ Some key → length key ≡ 32
key_long text key e = go (decode_sized text 32) refl e
  where
    go : (r : Result (List ℕ) _) → decode_sized text 32 ≡ r → if_ok r ≡ Some key → length key ≡ 32
    go (Ok bytes) is f = sized_long text key (is ∙ ap (λ (l : List ℕ). Ok l) (the_one bytes key f))
    go (Err fault) is f = absurd cc

abbrev IsLong : List ℕ → Type 0
IsLong key = length key ≡ 32

keys_long : (n : ℕ) (text : List ℕ) (keys : List (List ℕ)) → keys_in n text ≡ Some keys → AllByRecursion IsLong keys
keys_long zero [] keys e = subst (λ (l : List (List ℕ)). AllByRecursion IsLong l) (the_one [] keys e) tt
keys_long zero (b ∷ bs) keys e = absurd cc
keys_long (suc k) text keys e =
    option_and_then_some _ (key_in (take 64 text)) keys e (λ key is f.
    option_and_then_some _ (keys_in k (drop 64 text)) keys f (λ more was g.
    subst (λ (l : List (List ℕ)). AllByRecursion IsLong l) (the_one (key ∷ more) keys g) (key_long (take 64 text) key is, keys_long k (drop 64 text) more was)))

zeros_long : (k : ℕ) → AllByRecursion IsLong (replicate k (replicate 32 0))
zeros_long zero = tt
zeros_long (suc k) = (refl, zeros_long k)

both_long : (xs ys : List (List ℕ)) → AllByRecursion IsLong xs → AllByRecursion IsLong ys → AllByRecursion IsLong (xs ++ ys)
both_long [] ys left right = right
both_long (x ∷ xs) ys left right = (left.0, both_long xs ys left.1 right)

row_long : (n : ℕ) (text : List ℕ) (row : List (List ℕ)) → row_in n text ≡ Some row → AllByRecursion IsLong row
row_long n text row e = go (keys_in n text) refl e
  where
    go : (o : Option (List (List ℕ))) → keys_in n text ≡ o → option_map (λ keys. keys ++ replicate (31 - n) (replicate 32 0)) o ≡ Some row → AllByRecursion IsLong row
    go None is f = absurd cc
    go (Some keys) is f =
        let rest : List (List ℕ) = replicate (31 - n) (replicate 32 0) in
        subst (λ (l : List (List ℕ)). AllByRecursion IsLong l) (the_one (keys ++ rest) row f) (both_long keys rest (keys_long n text keys is) (zeros_long (31 - n)))

before_range : (byte high : ℕ) (text : List ℕ) (x : ℕ × List ℕ) → number_before byte high text ≡ Some x → x.0 ≤ high
before_range byte high text x e =
    option_and_then_some _ (cut_at byte text) x e (λ parts is f.
    option_and_then_some _ (number_in 0 high parts.0) x f (λ number was g.
    let same : number ≡ x.0 = ap (λ (q : ℕ × List ℕ). q.0) (the_one (number, parts.1) x g) in
    let range = number_range 0 high parts.0 number was in
    omega (arith, same, range.1)))

payload_short : (text payload : List ℕ) → payload_in text ≡ Some payload → length payload ≤ longest_payload
payload_short text payload e = go (bytes_eq text (codes "-")) e
  where
    digits : (r : Result (List ℕ) _) → decode_of text ≡ r → if_ok r ≡ Some payload → decode_of text ≡ Ok payload
    digits (Ok bytes) is f = is ∙ ap (λ (l : List ℕ). Ok l) (the_one bytes payload f)
    digits (Err fault) is f = absurd cc

    go : (b : Bool) → (if b then Some [] else (if nat_le 2 (length text) && nat_le (length text) (2 * longest_payload) then if_ok (decode_of text) else None)) ≡ Some payload → length payload ≤ longest_payload
    go true f = let none : 0 ≡ length payload = ap (λ (l : List ℕ). length l) (the_one [] payload f) in omega (arith, none)
    go false f =
        let test = some_if (nat_le 2 (length text) && nat_le (length text) (2 * longest_payload)) (if_ok (decode_of text)) payload f in
        let most = leb-true (length text) (2 * longest_payload) (and_parts (nat_le 2 (length text)) (nat_le (length text) (2 * longest_payload)) test.0).1 in
        let twice = (decode_of-ok text payload (digits (decode_of text) refl test.1)).2 in
        omega (arith, most, twice)

-- a request for one of n replicas, of at most `longest_payload` bytes
record FitsRequest (n : ℕ) (r : Request) : Type 0 where
  at : r.at ≤ n - 1
  short : length r.payload ≤ longest_payload

request_fits : (n : ℕ) (text : List ℕ) (r : Request) → request_of_line n text ≡ Some r → FitsRequest n r
request_fits n text r e =
    option_and_then_some _ (number_before 32 (n - 1) text) r e (λ at is0 f0.
    option_and_then_some _ (number_before 32 4294967295 at.1) r f0 (λ client is1 f1.
    option_and_then_some _ (number_before 32 4294967295 client.1) r f1 (λ request is2 f2.
    option_and_then_some _ (payload_in request.1) r f2 (λ payload is3 f3.
    let same = the_one (record { at = at.0; client = client.0; request = request.0; payload = payload }) r f3 in
    subst (λ (q : Request). FitsRequest n q) same (record { at = before_range 32 (n - 1) text at is0; short = payload_short request.1 payload is3 })))))

-- ---- lines
-- this is read of some value
abbrev IsSaid : {A : Type 0} → (List ℕ → Option A) → A → Type 0
IsSaid read x = (value : List ℕ) × (read value ≡ Some x)

-- so many lines say so many values, and what follows them says the rest
record SaysAll {A X : Type 0} (read : List ℕ → Option A) (k : ℕ) (next : List A → Column X) (x : X) : Type 0 where
  values : List A
  many : length values ≡ k
  said : AllByRecursion (IsSaid read) values
  rest : List ℕ
  more : IsText (next values) x rest

lines_say : {A X : Type 0} (name : List ℕ) (one : is_one_line name ≡ true) (read : List ℕ → Option A) (k : ℕ) (next : List A → Column X) (x : X) (text : List ℕ)
    → IsText (lines_of name one read k next) x text → SaysAll read k next x
unfolding lines_of
lines_say name one read zero next x text is = record { values = []; many = refl; said = tt; rest = text; more = is }
lines_say name one read (suc k) next x text is =
    let others = lines_say name one read k (λ more. next (is.0 ∷ more)) x is.1 is.3 in
    record {
      values = is.0 ∷ others.values;
      many = ap suc others.many;
      said = ((is.2.value, is.2.reads), others.said);
      rest = others.rest;
      more = others.more;
    }

-- at most so many lines say what is said
record SaysSome {A X : Type 0} (read : List ℕ → Option A) (k : ℕ) (all : List A → X) (x : X) : Type 0 where
  values : List A
  many : length values ≤ k
  said : AllByRecursion (IsSaid read) values
  is : all values ≡ x

lines_say_some : {A X : Type 0} (name : List ℕ) (one : is_one_line name ≡ true) (read : List ℕ → Option A) (k : ℕ) (all : List A → X) (x : X) (text : List ℕ)
    → IsText (lines_up_to name one read k all) x text → SaysSome read k all x
unfolding lines_up_to
lines_say_some name one read zero all x text is = record { values = []; many = omega arith; said = tt; is = is.1 }
lines_say_some name one read (suc k) all x text (inl is) = record { values = []; many = omega arith; said = tt; is = is.1 }
lines_say_some name one read (suc k) all x text (inr is) =
    let others = lines_say_some name one read k (λ more. all (is.0 ∷ more)) x is.1 is.3 in
    record {
      values = is.0 ∷ others.values;
      many = omega (arith, others.many);
      said = ((is.2.value, is.2.reads), others.said);
      is = others.is;
    }

-- the line of copies says what is said of a number from 1 to n
record SaysCopies {X : Type 0} (n : ℕ) (said : ℕ → X) (x : X) : Type 0 where
  copies : ℕ
  least : 1 ≤ copies
  most : 1 ≤ n → copies ≤ n
  is : said copies ≡ x

copies_say : {X : Type 0} (n : ℕ) (said : ℕ → X) (x : X) (text : List ℕ) → IsText (copies_line n said) x text → SaysCopies n said x
unfolding copies_line
copies_say n said x text (inl is) = record { copies = 1; least = omega arith; most = λ some. some; is = is.1 }
copies_say n said x text (inr is) =
    let range = number_range 1 n is.2.value is.0 is.2.reads in
    record { copies = is.0; least = range.0; most = λ some. range.1; is = is.3.1 }

-- the line of a journal says what is said of yes or no
journal_says : {X : Type 0} (said : Bool → X) (x : X) (text : List ℕ) → IsText (journal_line said) x text → (journal : Bool) × (said journal ≡ x)
unfolding journal_line
journal_says said x text (inl is) = (false, is.1)
journal_says said x text (inr is) = (is.0, is.3.1)

-- ---- columns
atomic_within : (root : ℕ) → 6 ≤ root → root ≤ 7 → is_atomic root ≡ true
atomic_within root low high = grind arith

orders : (text : List ℕ) (root : ℕ) → number_in 6 most_root text ≡ Some root → is_atomic root ≡ true
orders text root e = let range = number_range 6 most_root text root e in atomic_within root range.0 range.1

node_fits : (text : List ℕ) (x : NodeText) → IsText node_column x text → FitsNode x
unfolding node_column session_lines numbers_lines
node_fits text x is =
    let p = is.3.3.3 in
    let root = p.3 in
    let me = root.3.3 in
    let row = me.3 in
    let coin = row.3 in
    let peers = lines_say _ _ _ _ _ x coin.1 coin.3 in
    let until = peers.more.3.3 in
    let end = journal_says _ x until.1 until.3 in
    let some = some_replica _ p.2.value p.0 p.2.reads in
    let at = (number_range 0 (p.0.n - 1) me.2.value me.0 me.2.reads).1 in
    subst (λ (y : NodeText). FitsNode y) end.1 (record {
      root = orders root.2.value root.0 root.2.reads;
      me = omega (arith, some, at);
      peers = peers.many;
      rest = row_rest p.0.n row.2.value row.0 row.2.reads;
      keys = row_long p.0.n row.2.value row.0 row.2.reads;
    })

all_short : (n : ℕ) (rs : List Request) → AllByRecursion (IsSaid (request_of_line n)) rs → AllByRecursion (λ r. length r.payload ≤ longest_payload) rs
all_short n [] said = tt
all_short n (r ∷ rs) said = ((request_fits n said.0.0 r said.0.1).short, all_short n rs said.1)

all_here : (n : ℕ) (rs : List Request) → 1 ≤ n → AllByRecursion (IsSaid (request_of_line n)) rs → AllByRecursion (λ r. r.at < n) rs
all_here n [] some said = tt
all_here n (r ∷ rs) some said =
    let at = (request_fits n said.0.0 r said.0.1).at in
    (omega (arith, some, at), all_here n rs some said.1)

cluster_fits : (text : List ℕ) (x : ClusterText) → IsText cluster_column x text → FitsCluster x
unfolding cluster_column session_lines numbers_lines
cluster_fits text x is =
    let p = is.3.3.3 in
    let root = p.3 in
    let master = root.3.3 in
    let peers = lines_say _ _ _ _ _ x master.1 master.3 in
    let until = peers.more.3 in
    let requests = lines_say_some _ _ _ _ _ x until.1 until.3 in
    let some = some_replica _ p.2.value p.0 p.2.reads in
    subst (λ (y : ClusterText). FitsCluster y) requests.is (record {
      root = orders root.2.value root.0 root.2.reads;
      peers = peers.many;
      many = requests.many;
      short = all_short p.0.n requests.values requests.said;
      here = all_here p.0.n requests.values some requests.said;
    })

submit_fits : (text : List ℕ) (x : SubmitConfig) → IsText submit_column x text → FitsSubmit x
unfolding submit_column numbers_lines
submit_fits text x is =
    let p = is.3.3 in
    let peers = lines_say _ _ _ _ _ x p.1 p.3 in
    let request = peers.more in
    subst (λ (y : SubmitConfig). FitsSubmit y) request.3.1 (record {
      peers = peers.many;
      short = (request_fits p.0.n request.2.value request.0 request.2.reads).short;
    })

watch_fits : (text : List ℕ) (x : WatchConfig) → IsText watch_column x text → FitsWatch x
unfolding watch_column numbers_lines
watch_fits text x is =
    let p = is.3.3 in
    let peers = lines_say _ _ _ _ _ x p.1 p.3 in
    let until = peers.more in
    let range = number_range 1 4294967295 until.2.value until.0 until.2.reads in
    subst (λ (y : WatchConfig). FitsWatch y) until.3.1 (record { peers = peers.many; least = range.0 })

plan_fits : (text : List ℕ) (x : Planned) → IsText drive_column x text → FitsPlan x
unfolding drive_column session_lines numbers_lines
plan_fits text x is =
    let p = is.3.3.3 in
    let order = p.3.3.3.3 in
    let commands = order.3.3.3 in
    let end = copies_say p.0.n _ x commands.1 commands.3 in
    subst (λ (y : Planned). FitsPlan y) end.is (record {
      least = end.least;
      most = end.most (some_replica _ p.2.value p.0 p.2.reads);
    })

-- ---- versions
-- the digit that names a version, and the first line of its texts
abbrev digit : FrameVersion → ℕ
digit One = 49
digit Two = 50
digit Three = 51

abbrev line : FrameVersion → List ℕ
line version = codes "ritas " ++ digit version ∷ 10 ∷ []

-- the version that a digit names
abbrev of_digit : ℕ → FrameVersion
of_digit d = if d == 50 then Two else if d == 51 then Three else One

again : (version : FrameVersion) → of_digit (digit version) ≡ version
again One = refl
again Two = refl
again Three = refl

-- what is read of a line of versions
version_of : (value : List ℕ) (version : FrameVersion) → version_in value ≡ Some version → value ≡ digit version ∷ []
version_of value version e = go (bytes_eq value (codes "1")) refl (bytes_eq value (codes "2")) refl (bytes_eq value (codes "3")) refl e
  where
    is : (d : ℕ) (v : FrameVersion) → bytes_eq value (d ∷ []) ≡ true → digit v ≡ d → Some v ≡ Some version → value ≡ digit version ∷ []
    is d v same names f =
        (bytes_eq-Decides value (d ∷ [])).0 same ∙ ap (λ (k : ℕ). k ∷ []) (sym names ∙ ap digit (the_one v version f))

    go : (a : Bool) → bytes_eq value (codes "1") ≡ a → (b : Bool) → bytes_eq value (codes "2") ≡ b → (c : Bool) → bytes_eq value (codes "3") ≡ c
        → (if a then Some One else (if b then Some Two else (if c then Some Three else None))) ≡ Some version → value ≡ digit version ∷ []
    go true one b two c three f = is 49 One one refl f
    go false one true two c three f = is 50 Two two refl f
    go false one false two true three f = is 51 Three three refl f
    go false one false two false three f = absurd cc

-- no text begins with the lines of two versions
abbrev seventh : List ℕ → ℕ
seventh (a ∷ b ∷ c ∷ d ∷ e ∷ f ∷ g ∷ text) = g
seventh _ = 0

one_version : (text : List ℕ) (v w : FrameVersion) → StartsWith (line v) text → StartsWith (line w) text → v ≡ w
one_version text v w one other =
    let same : digit v ≡ digit w = ap seventh (sym one.1 ∙ other.1) in
    sym (again v) ∙ ap of_digit same ∙ again w

-- a text whose first line is of a version
first_says : (text rest : List ℕ) (version : FrameVersion) → BeginsWith (codes "ritas") version_in version rest text → IsVersionOf text version
first_says text rest version begins =
    let value = version_of begins.value version begins.reads in
    let starts : StartsWith (line version) text = (rest, begins.whole ∙ ap (λ (l : List ℕ). codes "ritas" ++ 32 ∷ l ++ 10 ∷ rest) value) in
    let both : (w : FrameVersion) → (version ≡ w) ↔ StartsWith (line w) text =
    λ w. (λ is. subst (λ (v : FrameVersion). StartsWith (line v) text) is starts, one_version text version w starts) in
    record { first = both One; second = both Two; third = both Three }

drive_first : (text : List ℕ) (x : Planned) → IsText drive_column x text → IsVersionOf text x.version
unfolding drive_column session_lines numbers_lines
drive_first text x is =
    let p = is.3.3.3 in
    let order = p.3.3.3.3 in
    let commands = order.3.3.3 in
    let end = copies_say p.0.n _ x commands.1 commands.3 in
    subst (IsVersionOf text) (ap (λ (y : Planned). y.version) end.is) (first_says text is.1 is.0 is.2)

node_first : (text : List ℕ) (x : NodeText) → IsText node_column x text → IsVersionOf text x.version
unfolding node_column session_lines numbers_lines
node_first text x is =
    let root = is.3.3.3.3 in
    let coin = root.3.3.3.3 in
    let peers = lines_say _ _ _ _ _ x coin.1 coin.3 in
    let until = peers.more.3.3 in
    let end = journal_says _ x until.1 until.3 in
    subst (IsVersionOf text) (ap (λ (y : NodeText). y.version) end.1) (first_says text is.1 is.0 is.2)

cluster_first : (text : List ℕ) (x : ClusterText) → IsText cluster_column x text → IsVersionOf text x.version
unfolding cluster_column session_lines numbers_lines
cluster_first text x is =
    let root = is.3.3.3.3 in
    let master = root.3.3 in
    let peers = lines_say _ _ _ _ _ x master.1 master.3 in
    let until = peers.more.3 in
    let requests = lines_say_some _ _ _ _ _ x until.1 until.3 in
    subst (IsVersionOf text) (ap (λ (y : ClusterText). y.version) requests.is) (first_says text is.1 is.0 is.2)

-- ---- what is read
pub drive_read : (text : List ℕ) (x : Planned) → read_text drive_column text ≡ Ok x → FitsPlan x
drive_read text x e = plan_fits text x ((read_right drive_column).found text x e)

pub node_read : (text : List ℕ) (x : NodeText) → read_text node_column text ≡ Ok x → FitsNode x
node_read text x e = node_fits text x ((read_right node_column).found text x e)

pub cluster_read : (text : List ℕ) (x : ClusterText) → read_text cluster_column text ≡ Ok x → FitsCluster x
cluster_read text x e = cluster_fits text x ((read_right cluster_column).found text x e)

pub submit_read : (text : List ℕ) (x : SubmitConfig) → read_text submit_column text ≡ Ok x → FitsSubmit x
submit_read text x e = submit_fits text x ((read_right submit_column).found text x e)

pub watch_read : (text : List ℕ) (x : WatchConfig) → read_text watch_column text ≡ Ok x → FitsWatch x
watch_read text x e = watch_fits text x ((read_right watch_column).found text x e)

pub drive_version : (text : List ℕ) (x : Planned) → read_text drive_column text ≡ Ok x → IsVersionOf text x.version
drive_version text x e = drive_first text x ((read_right drive_column).found text x e)

pub node_version : (text : List ℕ) (x : NodeText) → read_text node_column text ≡ Ok x → IsVersionOf text x.version
node_version text x e = node_first text x ((read_right node_column).found text x e)

pub cluster_version : (text : List ℕ) (x : ClusterText) → read_text cluster_column text ≡ Ok x → IsVersionOf text x.version
cluster_version text x e = cluster_first text x ((read_right cluster_column).found text x e)
