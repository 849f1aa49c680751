-- What the command line reads of words.
use Rattle.std.proofs.Common.{◌≡◌, ◌∙◌, List, [], Some, None, Option, box_value, option_map, ap, sym, subst, refl, codes, true, false, inl, inr, ℕ, suc, ◌<◌, ◌^◌, ◌++◌, arith}
use Rattle.std.proofs.lemmas.List.Folds.{find-append}
use Rattle.std.proofs.lemmas.List.Sums.{fold-append}
use Rattle.std.specs.Prelude.{◌≢◌, ◌&&◌, Bool, Result, Ok, Err, IfOk, IfErr, find, fold, option_and_then, if◌then◌else◌}
use Rattle.std.specs.Option.{option_map_or, option_or}
use Rattle.std.specs.Str.{bytes_eq}
use Rattle.std.specs.Str.Parse.{IsNumeral, ParsesUnsigned, digits_value, without_leading_plus}
use Rattle.clap.specs.ValueTests.{accepts}
use Rattle.clap.proofs.ValueTestLemmas.{accepts-Accepts, Accepts-accepts}
use Rattle.clap.specs.declared.builder.value_parser.ValueParser.TheVariants as vp
use Rattle.clap.proofs.WalkLemmas.{first_value-rows, one_text-rows}
use Rattle.clap.specs.declared.parser.matches.Found.{Found}
use Rattle.clap.specs.Words.{App, Row, Text, new_app, ReadsOne, first_of, one_of, one_text, first_value, IsAmong, HasKind, subcommand_rows_of, subcommand_of, subcommand_name_of, is_simple, is_simple_and_free, fault_of, kind_of, rows_of, found_of, HasMatchesOf}
use Rattle.clap.specs.declared.parser.matches.ArgMatches.{ArgMatches}
use Rattle.clap.specs.declared.parser.matches.ArgMatches.TheViews.{out-ArgMatches, out-SubCommand}
use Rattle.clap.specs.declared.error.Error.{Error}
use Rattle.clap.specs.declared.error.kind.ErrorKind.{ErrorKind}
use Rattle.clap.specs.declared.error.kind.ErrorKind.TheVariants as kind
use Rattle.blk_args.specs.declared.table.JobKind.{JobKind}
use Rattle.blk_args.specs.CommandLine.{Names, AreNames, Subcommand, topmost, run_table, other_table, with_one, blk_app}
use Rattle.blk_args.specs.declared.words.Job.{Job}
use Rattle.blk_args.specs.declared.words.Job.TheVariants as job
use Rattle.blk_args.specs.Times.{number_in}
use Rattle.blk_schedulers.specs.declared.numbers.Load.{Load}
use Rattle.blk_schedulers.specs.declared.sched.Sched.{Sched}
use Rattle.blk_args.specs.declared.words.Refusal.{Refusal}
use Rattle.blk_args.specs.declared.words.Refusal.TheVariants as refusal
use Rattle.blk_args.specs.declared.inputs.ShownLoad.{ShownLoad}
use Rattle.blk_args.specs.declared.words.Kept.TheVariants as kept
use Rattle.blk_args.specs.declared.words.Written.TheVariants as written
use Rattle.blk_args.specs.Asked.{AsksNoGrid, AsksNoPlans, unscripted, written_with, AreFaulty, Asks, is_flagged, loaded, shown_of, load_job, job_made}

simple : (names : Names) → is_simple (blk_app names) ≡ true
simple names = refl

free : (names : Names) → is_simple_and_free (blk_app names) ≡ true
free names = refl

go : {X : Type 0} (f : X → Text) (g : X → List Row) (o : Option X) → option_map f o ≡ option_map (λ (p : Text × List Row). p.0) (option_map (λ x. (f x, g x)) o)
go f g None = refl
go f g (Some x) = refl

named : (m : ArgMatches) → subcommand_name_of m ≡ option_map (λ p. p.0) (subcommand_rows_of m)
named m = go (λ b. (out-SubCommand (box_value b)).name.now) (λ b. rows_of (found_of (out-SubCommand (box_value b)).matches)) (out-ArgMatches m).subcommand

both : (o : Option (Text × List Row)) (name : Text) (rows : List Row) → Some name ≡ option_map (λ p. p.0) o → Some rows ≡ option_map (λ p. p.1) o → o ≡ Some (name, rows)
both None name rows e f = cc e
both (Some p) name rows e f = let a : name ≡ p.0 = cc e in let b : rows ≡ p.1 = cc f in rw (a, b) refl

-- the subcommand that was read, by its name and its rows; and where there is none
pub subcommand_read : (m : ArgMatches) (name : Text) (rows : List Row) → Some name ≡ subcommand_name_of m → Some rows ≡ option_map (λ p. p.1) (subcommand_rows_of m) → subcommand_rows_of m ≡ Some (name, rows)
subcommand_read m name rows e f = both (subcommand_rows_of m) name rows (e ∙ named m) f

-- words that were parsed have no fault, and the subcommand that was read is theirs
pub parsed : (names : Names) (a : App) (words : List Text) (m : ArgMatches) → a ≡ blk_app names → HasMatchesOf a words m → (is_simple_and_free a ≡ true → fault_of a words ≡ [])
    → (fault_of (blk_app names) words ≡ []) × (subcommand_rows_of m ≡ subcommand_of (blk_app names) words)
parsed names a words m e has kinds = ((rw e at kinds) (free names), ((rw e at has) (simple names)).1)

among : (names : Names) (a : App) (words : List Text) (error : Error) (k : ErrorKind) → a ≡ blk_app names → (is_simple_and_free a ≡ true → HasKind (fault_of a words) error)
    → k ≡ kind_of error → k ≢ kind.OutOfMemory → IsAmong k (fault_of (blk_app names) words)
among names a words error k e kinds is not =
    let h = (rw e at kinds) (free names) in
    elim h [ inl m ↦ absurd (not (is ∙ m)) | inr m ↦ rw is m ]

-- words that were not parsed, since they ask for the version
pub version_by : (names : Names) (a : App) (words : List Text) (error : Error) → AreNames names → a ≡ blk_app names
    → (is_simple_and_free a ≡ true → HasKind (fault_of a words) error) → kind.DisplayVersion ≡ kind_of error → Asks words job.Version
version_by names a words error are e kinds is = (names, are, inr (among names a words error kind.DisplayVersion e kinds is (λ x. cc x), refl))

-- words that were not parsed, for another kind of error than out of memory, and that don't ask for the version, are refused
pub line_by : (names : Names) (a : App) (words : List Text) (error : Error) (k : ErrorKind) → AreNames names → a ≡ blk_app names
    → (is_simple_and_free a ≡ true → HasKind (fault_of a words) error) → k ≡ kind_of error → k ≢ kind.OutOfMemory → k ≢ kind.DisplayVersion → AreFaulty words
line_by names a words error k are e kinds is not other = (names, are, (k, among names a words error k e kinds is not, other))

-- the flag by the text that is given
pub flagged_by : (f : Found) (id text : Text) (b : Bool) → Some text ≡ first_value f id → b ≡ bytes_eq text (codes "true") → b ≡ is_flagged id (rows_of f)
flagged_by f id text b e is = is ∙ ap (λ (o : Option Text). option_map_or (λ t. bytes_eq t (codes "true")) o false) (e ∙ first_value-rows f id)

pub not_flagged_by : (f : Found) (id : Text) → None ≡ first_value f id → false ≡ is_flagged id (rows_of f)
not_flagged_by f id e = ap (λ (o : Option Text). option_map_or (λ t. bytes_eq t (codes "true")) o false) (e ∙ first_value-rows f id)

-- what is made of the text that is given; and where none is
pub given_by : {X : Type 0} (f : Found) (id text : Text) (make : Text → Option X) (r : Option X) → Some text ≡ first_value f id → r ≡ make text → r ≡ option_and_then make (first_of id (rows_of f))
given_by f id text make r e is = is ∙ ap (option_and_then make) (e ∙ first_value-rows f id)

pub not_given_by : {X : Type 0} (f : Found) (id : Text) (make : Text → Option X) → None ≡ first_value f id → None ≡ option_and_then make (first_of id (rows_of f))
not_given_by f id make e = ap (option_and_then make) (e ∙ first_value-rows f id)

-- what is made of the text that is given, where one may be given
pub read_by : {X : Type 0} (f : Found) (id text : Text) (make : Text → X) (none r : X) → Some text ≡ first_value f id → r ≡ make text → r ≡ option_map_or make (first_of id (rows_of f)) none
read_by f id text make none r e is = is ∙ ap (λ (o : Option Text). option_map_or make o none) (e ∙ first_value-rows f id)

pub unread_by : {X : Type 0} (f : Found) (id : Text) (make : Text → X) (none : X) → None ≡ first_value f id → none ≡ option_map_or make (first_of id (rows_of f)) none
unread_by f id make none e = ap (λ (o : Option Text). option_map_or make o none) (e ∙ first_value-rows f id)

-- the greatest number of `bits` bits
abbrev pub IsGreatest : ℕ → ℕ → Type 0
IsGreatest bits most = (suc most ≡ 2 ^ bits) × (most < 2 ^ 64)

-- a text that parses as a number of `bits` bits, and one that does not
abbrev pub Parses : ℕ → Text → Type 0
Parses bits text = IsNumeral 10 (without_leading_plus text) × (digits_value 10 (without_leading_plus text) < 2 ^ bits)

pub number_parsed : (bits most : ℕ) → IsGreatest bits most → (text : Text) (n : ℕ) → Parses bits text → n ≡ digits_value 10 (without_leading_plus text) → number_in most text ≡ Some n
number_parsed bits most g text n p is =
    let below : digits_value 10 (without_leading_plus text) < suc most = subst (λ x. digits_value 10 (without_leading_plus text) < x) (sym g.0) p.1 in
    let t : accepts false (vp.Unsigned 0 most) text ≡ true = Accepts-accepts false (vp.Unsigned 0 most) text (p.0, omega (arith, g.1), omega arith, omega arith) in
    ap (λ (b : Bool). if b then Some (digits_value 10 (without_leading_plus text)) else None) t ∙ ap (λ (m : ℕ). Some m) (sym is)

not_accepted : (bits most : ℕ) → IsGreatest bits most → (text : Text) (b : Bool) → accepts false (vp.Unsigned 0 most) text ≡ b → (Parses bits text → ⊥) → b ≡ false
not_accepted bits most g text false e wrong = refl
not_accepted bits most g text true e wrong =
    let a = accepts-Accepts false (vp.Unsigned 0 most) text e in
    let below : digits_value 10 (without_leading_plus text) < suc most = omega (arith, a.3) in
    absurd (wrong (a.0, subst (λ x. digits_value 10 (without_leading_plus text) < x) g.0 below))

pub number_unparsed : (bits most : ℕ) → IsGreatest bits most → (text : Text) → (Parses bits text → ⊥) → number_in most text ≡ None
number_unparsed bits most g text wrong =
    ap (λ (b : Bool). if b then Some (digits_value 10 (without_leading_plus text)) else None) (not_accepted bits most g text _ refl wrong)

-- what a reader of numbers of `bits` bits gives for the text of an option
read_number : (bits most : ℕ) → IsGreatest bits most → {E : Type 0} (gives : Text → Result ℕ E → Type 0) → ((t : Text) (q : Result ℕ E) → gives t q → ParsesUnsigned bits 10 t q) → (o : Option Text) (r : Option ℕ)
    → (o ≡ None → r ≡ None) → ((t : Text) → o ≡ Some t → ReadsOne gives t r) → r ≡ option_and_then (number_in most) o
read_number bits most g gives w None r none value = none refl
read_number bits most g gives w (Some t) None none value = let h = value t refl in sym (number_unparsed bits most g t (w t (Err h.0) h.1))
read_number bits most g gives w (Some t) (Some n) none value = let h = w t (Ok n) (value t refl) in sym (number_parsed bits most g t n h.0 h.1)

pub number_by : (bits most : ℕ) → IsGreatest bits most → {E : Type 0} (gives : Text → Result ℕ E → Type 0) → ((t : Text) (q : Result ℕ E) → gives t q → ParsesUnsigned bits 10 t q) → (f : Found) (id : Text) (r : Option ℕ)
    → (one_text f id ≡ None → r ≡ None) → ((t : Text) → one_text f id ≡ Some t → ReadsOne gives t r) → r ≡ option_and_then (number_in most) (one_of id (rows_of f))
number_by bits most g gives w f id r none value = read_number bits most g gives w (one_text f id) r none value ∙ ap (option_and_then (number_in most)) (one_text-rows f id)

-- the job that is made where it is known what makes it, and where nothing does
pub made : (o : Option Subcommand) (m : JobKind) (rows : List Row) → Some m ≡ option_map (λ s. s.makes) o → job_made m rows ≡ option_and_then (λ s. job_made s.makes rows) o
made None m rows e = cc e
made (Some s) m rows e = let same : m ≡ s.makes = cc e in ap (λ k. job_made k rows) same

pub not_made : (o : Option Subcommand) (rows : List Row) → None ≡ option_map (λ s. s.makes) o → None ≡ option_and_then (λ s. job_made s.makes rows) o
not_made None rows e = refl
not_made (Some s) rows e = cc e

-- the command line of the program, by its subcommands
pub blk_made : (names : Names) (a b c : App) (xs ys : List Subcommand) → a ≡ topmost (new_app (codes "blk")) → xs ≡ run_table → ys ≡ other_table → b ≡ fold (with_one names) a xs → c ≡ fold (with_one names) b ys
    → c ≡ blk_app names
blk_made names a b c xs ys base e f runs all = all ∙ rw (runs, base, e, f) (sym (fold-append (with_one names) (topmost (new_app (codes "blk"))) run_table other_table))

-- what is found among some and others
map_or : {X Y : Type 0} (g : X → Y) (o p : Option X) → option_map g (option_or o p) ≡ option_or (option_map g o) (option_map g p)
map_or g None p = refl
map_or g (Some x) p = refl

pub named_in : {X Y : Type 0} (g : X → Y) (test : X → Bool) (xs ys : List X) (a b : Option Y) → a ≡ option_map g (find test xs) → b ≡ option_map g (find test ys) → option_or a b ≡ option_map g (find test (xs ++ ys))
named_in g test xs ys a b e f =
    ap (λ o. option_or o b) e ∙ ap (option_or (option_map g (find test xs))) f ∙ sym (map_or g (find test xs) (find test ys)) ∙ ap (option_map g) (sym (find-append test xs ys))

-- words that were not parsed, for another kind of error than out of memory, ask for no grid, be it of a trial or of replays
faulty : (names : Names) (a : App) (words : List Text) (error : Error) (k : ErrorKind) → a ≡ blk_app names
    → (is_simple_and_free a ≡ true → HasKind (fault_of a words) error) → k ≡ kind_of error → k ≢ kind.OutOfMemory → fault_of (blk_app names) words ≢ []
faulty names a words error k e kinds is not = λ none. rw none at (among names a words error k e kinds is not)

pub faulty_by : (names : Names) (a : App) (words : List Text) (error : Error) (k : ErrorKind) → AreNames names → a ≡ blk_app names
    → (is_simple_and_free a ≡ true → HasKind (fault_of a words) error) → k ≡ kind_of error → k ≢ kind.OutOfMemory → AsksNoGrid words
faulty_by names a words error k are e kinds is not = (names, are, inl (faulty names a words error k e kinds is not))

pub no_plans_by : (names : Names) (a : App) (words : List Text) (error : Error) (k : ErrorKind) → AreNames names → a ≡ blk_app names
    → (is_simple_and_free a ≡ true → HasKind (fault_of a words) error) → k ≡ kind_of error → k ≢ kind.OutOfMemory → AsksNoPlans words
no_plans_by names a words error k are e kinds is not = (names, are, inl (faulty names a words error k e kinds is not))

-- what an Ok is, and what an Err is, where it is something else
pub ok_so : {X E : Type 0} (r : Result X E) (P Q : X → Type 0) → ((x : X) → P x → Q x) → IfOk r P → IfOk r Q
ok_so (Ok x) P Q f h = f x h
ok_so (Err e) P Q f h = h

pub err_so : {X E : Type 0} (r : Result X E) (P Q : E → Type 0) → ((e : E) → P e → Q e) → IfErr r P → IfErr r Q
err_so (Ok x) P Q f h = h
err_so (Err e) P Q f h = f e h

-- a load whose trace and JSON are not both asked for
pub not_first : (a b : Bool) → a ≡ false → (a && b) ≡ false
not_first a b e = ap (λ (x : Bool). x && b) e

pub not_second : (a b : Bool) → b ≡ false → (a && b) ≡ false
not_second true b e = e
not_second false b e = refl

pub loads_by : (times trace json a b : Bool) (w : ShownLoad) (s : Option Sched) (l : Option Load) (r : Option Job) → (trace && json) ≡ false → trace ≡ a → json ≡ b → w ≡ shown_of trace json → r ≡ loaded times w s l
    → r ≡ load_job times a b s l
loads_by times trace json a b w s l r not e f g h =
    h ∙ ap (λ (x : ShownLoad). loaded times x s l) g
    ∙ sym (ap (λ (both : Bool). if both then Some (job.Refuse refusal.TraceAndJson) else loaded times (shown_of trace json) s l) not)
    ∙ ap (λ (t : Bool). load_job times t json s l) e ∙ ap (λ (j : Bool). load_job times a j s l) f

-- what is written of an import without a script
pub a_table : (round : Option ℕ) (r : Result (Option ℕ) Refusal) (script a table b summary c : Bool) (depth d : Option ℕ) → Ok round ≡ r → script ≡ a → script ≡ false → table ≡ b → table ≡ true → summary ≡ c → summary ≡ false → depth ≡ d
    → unscripted (written.Kept kept.Table) round depth ≡ written_with a b c d r
a_table round r script a table b summary c depth d e f is g has h so i = rw (← e, ← f, is, ← g, has, ← h, so, ← i) refl

pub a_summary : (round : Option ℕ) (r : Result (Option ℕ) Refusal) (script a table b summary c : Bool) (depth d : Option ℕ) → Ok round ≡ r → script ≡ a → script ≡ false → table ≡ b → table ≡ false → summary ≡ c → summary ≡ true → depth ≡ d
    → unscripted written.Summary round depth ≡ written_with a b c d r
a_summary round r script a table b summary c depth d e f is g has h so i = rw (← e, ← f, is, ← g, has, ← h, so, ← i) refl

pub a_schedule : (round : Option ℕ) (r : Result (Option ℕ) Refusal) (script a table b summary c : Bool) (depth d : Option ℕ) → Ok round ≡ r → script ≡ a → script ≡ false → table ≡ b → table ≡ false → summary ≡ c → summary ≡ false → depth ≡ d
    → unscripted (written.Kept kept.Schedule) round depth ≡ written_with a b c d r
a_schedule round r script a table b summary c depth d e f is g has h so i = rw (← e, ← f, is, ← g, has, ← h, so, ← i) refl
