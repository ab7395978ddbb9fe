-- What is made beforehand, so that a call is routed without memory.
use Rattle.std.specs.Prelude.{◌≡◌, ℕ, ◌≤◌, [], vec_capacity, string_bytes, string_len}
use Rattle.core_step_routes.specs.declared.lists.Lists.{Lists}

-- The longest text of a reason.
abbrev pub reason_limit : ℕ
reason_limit = 16

-- The lists are empty, with room for one of each of n capabilities, and so is the text.
pub record IsPrepared (n : ℕ) (x : Lists) : Type 0 where
  pub refs : x.refs.items ≡ []
  pub said : x.said.items ≡ []
  pub given : x.given.items ≡ []
  pub ref_room : n ≤ vec_capacity x.refs
  pub said_room : n ≤ vec_capacity x.said
  pub given_room : n ≤ vec_capacity x.given
  pub text : string_bytes x.text ≡ []
  pub text_len : string_len x.text ≡ 0
