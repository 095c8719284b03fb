-- Ping ::= SEQUENCE { pong Pong OPTIONAL } and Pong ::= SEQUENCE { ping Ping OPTIONAL }
use Rattle.std.specs.Prelude.{◌≡◌, ℕ, zero, suc}
use Rattle.std.specs.Prelude.{List, [], ◌∷◌, Option, Some, None, false, refl}
use Rattle.rasn_below.specs.Page.{Value, sequence_value, at, TypeLists, own_tags}
use Rattle.rasn_below.specs.Types.{Schema, listed, no_parts, part, Levelled, no_level, to_sequence, to_part}
use Rattle.rasn_below.specs.Types.{to_no_parts, sequence_at}
use Rattle.rasn_below.specs.Types
use Rattle.per_samples_c.specs.declared.ping.Ping.{Ping, Ping', Held-Ping-pong, Ping-pong-None', Ping-pong-Some'}
use Rattle.per_samples_c.specs.declared.pong.Pong.{Pong, Pong', Held-Pong-ping, Pong-ping-None', Pong-ping-Some'}

-- each to a number of levels
abbrev mutual
  pub ping_schema : ℕ → Schema
  ping_schema zero = Types.cut
  ping_schema (suc n) = Schema.sequence listed (part (at 0) Types.optional (pong_schema n) no_parts) false no_parts

  pub pong_schema : ℕ → Schema
  pong_schema zero = Types.cut
  pong_schema (suc n) = Schema.sequence listed (part (at 0) Types.optional (ping_schema n) no_parts) false no_parts

mutual
  pub ping_levelled : Levelled ping_schema
  ping_levelled zero = no_level tt
  ping_levelled (suc n) = to_sequence (to_part (pong_levelled n) to_no_parts) to_no_parts

  pub pong_levelled : Levelled pong_schema
  pong_levelled zero = no_level tt
  pong_levelled (suc n) = to_sequence (to_part (ping_levelled n) to_no_parts) to_no_parts

abbrev pub ping : TypeLists
ping = own_tags (record {
  tags = at 0;
  presence = Types.optional;
  schema = pong_schema;
  levelled = pong_levelled;
  fits = λ n. refl;
} ∷ [])

abbrev pub pong : TypeLists
pong = own_tags (record {
  tags = at 0;
  presence = Types.optional;
  schema = ping_schema;
  levelled = ping_levelled;
  fits = λ n. refl;
} ∷ [])

-- the trees are those of the components
pub ping_is_sequence : (n : ℕ) → sequence_at ping n ≡ ping_schema n
ping_is_sequence zero = refl
ping_is_sequence (suc n) = refl

pub pong_is_sequence : (n : ℕ) → sequence_at pong n ≡ pong_schema n
pong_is_sequence zero = refl
pong_is_sequence (suc n) = refl

-- what the components are
abbrev mutual
  pub ping_contents : Ping → List (Option Value)
  ping_contents (Ping' pong) = pong_content pong ∷ []

  pub pong_content : Held-Ping-pong → Option Value
  pong_content Ping-pong-None' = None
  pong_content (Ping-pong-Some' p n) = Some (sequence_value (pong_contents n))

  pub pong_contents : Pong → List (Option Value)
  pong_contents (Pong' ping) = ping_content ping ∷ []

  pub ping_content : Held-Pong-ping → Option Value
  ping_content Pong-ping-None' = None
  ping_content (Pong-ping-Some' p n) = Some (sequence_value (ping_contents n))

-- how many levels they take
abbrev mutual
  pub ping_depth : Ping → ℕ
  ping_depth (Ping' pong) = after_ping pong

  after_ping : Held-Ping-pong → ℕ
  after_ping Ping-pong-None' = 0
  after_ping (Ping-pong-Some' p n) = suc (pong_depth n)

  pub pong_depth : Pong → ℕ
  pong_depth (Pong' ping) = after_pong ping

  after_pong : Held-Pong-ping → ℕ
  after_pong Pong-ping-None' = 0
  after_pong (Pong-ping-Some' p n) = suc (ping_depth n)
