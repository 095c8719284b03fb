-- What is read of octets that go on after a value: what is read of those before the rest, and the rest.
use Rattle.std.proofs.Common.{◌≡◌, ◌↔◌, refl, sym, ap, ◌∙◌, subst, ℕ, ◌+◌, ◌++◌, length, List, Result, Ok, Err, arith}
use Rattle.std.specs.Borrow.{Bor}
use Rattle.std.proofs.lemmas.List.{length-append}
use Rattle.rasn_types.specs.Variants.{variant_of}
use Rattle.rasn_types.specs.Values.{Value}
use Rattle.rasn_types.specs.declared.types.Codec.{Codec}
use Rattle.rasn_schema.specs.Schemas.{Schema}
use Rattle.rasn_schema.specs.Levels.{Levelled}
use Rattle.per_core.specs.Basic.{fills, fills_known, front, read}
use Rattle.per_core.specs.Spellings.{Settings}
use Rattle.per_core.specs.Versions.{NewerType}
use Rattle.rasn_types.proofs.Codes.{split_at_length}
use Rattle.per_core.proofs.Laws.{one_front, one_value}
use Rattle.per_laws.proofs.AnyDepth
use Rattle.per_laws.proofs.Levelled.{levelled_type_unfolds}
use Rattle.per_laws.proofs.Peers
use Rattle.per_core.specs.declared.decode_error.DecodeError.{DecodeError}
use Rattle.rasn_per.specs.Calls.{DecodedFront, AreBytes, basically}
use Rattle.per_versions.specs.Answers.{AnswersFront}
use Rattle.per_versions.specs.Readings.{depth_of, normal_form}
use Rattle.per_versions.proofs.Depths.{is_held, bytes_at}

-- what is read of all these octets, with the rest after them
abbrev pub IsFront : Settings → (ℕ → Schema) → List ℕ → List ℕ → Type 0
IsFront a type os rest = (w : Value) (after : List ℕ) → front a (type 128) w (os ++ rest) after ↔ (read a type w os × (after ≡ rest))

-- a reader answers just what these octets are read as, and the rest
pub front_answered : {T : Type 0} (codec : Codec) (type : ℕ → Schema) (value : T → Value) (octets os rest : List ℕ) (answer : Result (T × Bor (List ℕ)) DecodeError) (IsRead : Value → Type 0) →
    DecodedFront codec type value octets answer → octets ≡ os ++ rest → IsFront (basically (variant_of codec)) type os rest → ((w : Value) → read (basically (variant_of codec)) type w os ↔ IsRead w) → AnswersFront value IsRead rest answer
front_answered codec type value octets os rest (Ok x) IsRead d e f h =
    let a = basically (variant_of codec) in
    let r = (f (value x.0) x.1.now).0 (subst (λ z. front a (type 128) (value x.0) z x.1.now) e d.ok.are_read) in
    record { ok = ((h (value x.0)).0 r.0, r.1); err = tt }
front_answered codec type value octets os rest (Err k) IsRead d e f h =
    let a = basically (variant_of codec) in
    record { ok = tt; err = λ m w r. d.err m w rest (subst (λ z. front a (type 128) w z rest) (sym e) ((f w rest).1 ((h w).1 r, refl))) }

behind : (a : Settings) (type : ℕ → Schema) (w : Value) (os rest after : List ℕ) → read a type w os × (after ≡ rest) → front a (type 128) w (os ++ rest) after
behind a type w os rest after y = (os, ap (λ l. os ++ l) (sym y.1), y.0)

-- after canonical octets
pub own_front : (a : Settings) (T : ℕ → Schema) → Levelled T → (k : ℕ) (v : Value) (os rest : List ℕ) → AreBytes a.variant T k v os → IsFront a T os rest
own_front a T g k v os rest h w after =
    let e = bytes_at T g a.variant k v os h (k + depth_of v) (omega arith) (omega arith) in
    (λ y. Peers.type_front a T (levelled_type_unfolds T g) (normal_form T v) w os rest after (k + depth_of v) e y, behind a T w os rest after)

pub older_front : (a : Settings) (T' T : ℕ → Schema) → Levelled T' → Levelled T → NewerType T' T → (k : ℕ) (v : Value) (os rest : List ℕ) → AreBytes a.variant T' k v os → IsFront a T os rest
older_front a T' T g' g x k v os rest h w after =
    let e = bytes_at T' g' a.variant k v os h (k + depth_of v) (omega arith) (omega arith) in
    (λ y. Peers.older_type_front a T' T (levelled_type_unfolds T' g') (levelled_type_unfolds T g) x (normal_form T' v) w os rest after (k + depth_of v) e y, behind a T w os rest after)

pub newer_front : (a : Settings) (T' T : ℕ → Schema) → Levelled T' → Levelled T → NewerType T' T → (k : ℕ) (v : Value) (os rest : List ℕ) → AreBytes a.variant T k v os → IsFront a T' os rest
newer_front a T' T g' g x k v os rest h w after =
    let e = bytes_at T g a.variant k v os h (k + depth_of v) (omega arith) (omega arith) in
    (λ y. Peers.newer_type_front a T' T (levelled_type_unfolds T' g') (levelled_type_unfolds T g) x (normal_form T v) w os rest after (k + depth_of v) e y, behind a T' w os rest after)

-- after octets of any basic encoding
pub read_front : (a : Settings) (T : ℕ → Schema) (v : Value) (os rest : List ℕ) → read a T v os → IsFront a T os rest
read_front a T v os rest r w after =
    (λ y. let q = one_front a (T 128) v w (os ++ rest) rest after (behind a T v os rest rest (r, refl)) y in (subst (λ z. read a T z os) q.0 r, sym q.1), behind a T w os rest after)

pub projected_front : (a : Settings) (T' T : ℕ → Schema) → Levelled T' → Levelled T → NewerType T' T → (v : Value) (os rest : List ℕ) → read a T' v os → IsFront a T os rest
projected_front a T' T g' g x v os rest r w after =
    let q = AnyDepth.older_reader_reads a T' T (levelled_type_unfolds T' g') (levelled_type_unfolds T g) x v w os rest after (depth_of v) (is_held T' g' v) r in
    (λ y. let p = q.1.0 y in (q.0.1 p.0, p.1), behind a T w os rest after)

pub widened_front : (a : Settings) (T' T : ℕ → Schema) → Levelled T' → Levelled T → NewerType T' T → (v : Value) (os rest : List ℕ) → fills_known a (T 128) v os → IsFront a T' os rest
widened_front a T' T g' g x v os rest r w after =
    let q = AnyDepth.newer_reader_reads a T' T (levelled_type_unfolds T' g') (levelled_type_unfolds T g) x v w os rest after (depth_of w) (is_held T' g' w) r in
    (λ y. let p = q.1.0 y in (q.0.1 p.0, p.1), behind a T' w os rest after)

-- the octets before a rest are the only ones
before_rest : (os ps rest : List ℕ) → os ++ rest ≡ ps ++ rest → os ≡ ps
before_rest os ps rest e =
    let l : length os + length rest ≡ length ps + length rest = sym (length-append os rest) ∙ ap length e ∙ length-append ps rest in
    (split_at_length os ps rest rest (omega arith) e).0

-- octets are read as one value
pub only_read : (a : Settings) (T : ℕ → Schema) (v : Value) (os : List ℕ) → read a T v os → (w : Value) → read a T w os ↔ (w ≡ v)
only_read a T v os r w = (λ s. one_value a (T 128) w v os s r, λ e. subst (λ z. read a T z os) (sym e) r)

-- so what is read in front is read alone
pub read_alone : (a : Settings) (T : ℕ → Schema) (v : Value) (os rest : List ℕ) → front a (T 128) v (os ++ rest) rest → (w : Value) → read a T w os ↔ (w ≡ v)
read_alone a T v os rest y = only_read a T v os (subst (λ z. fills a (T 128) v z) (sym (before_rest os y.0 rest y.1)) y.2)
