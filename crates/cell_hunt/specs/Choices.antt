-- Which step a run makes next, by its strategy and by chance.
use Rattle.std.specs.Prelude.{◌≡◌, ℕ, zero, suc, ◌+◌, ◌-◌, ◌%◌, ◌^◌, ◌&&◌, Bool, true, false, nat_lt, if◌then◌else◌, Option, Some, None, length}
use Rattle.cell_base.specs.declared.steps.Step.{Step}
use Rattle.cell_machine.specs.Run.{Ran, picked_of}
use Rattle.rand_pcg.specs.Lcg.{Lcg, started, increment_of}
use Rattle.rand_pcg.specs.Pcg.{pcg32, multiplier_64}
use Rattle.cell_hunt.specs.declared.keys.TheConstants.{ABOVE_KEYS}
use Rattle.cell_hunt.specs.declared.strategy.Strategy.{Strategy}
use Rattle.cell_hunt.specs.Mixing.{with_number}
use Rattle.cell_hunt.specs.Strategies.{actor_drawn, strategy_at}
use Rattle.cell_hunt.specs.Keys.{key_at, opened as opened_keys, place_of, with_base, with_lowered, RunKeys}
use Rattle.cell_hunt.specs.Locals.{going_on}
use Rattle.cell_hunt.specs.Polls.{is_poll}
use Rattle.cell_hunt.specs.Offers.{offers, IsGreatest}

-- ---- what is kept of a run's choices

pub record Choices : Type 0 where
  pub strategy : Strategy
  -- if keys stay, the greatest one is lowered before a choice with a chance of 2^-rate
  pub rate : ℕ
  -- the random words that are still to come, each of 32 bits
  pub words : Lcg
  pub keys : RunKeys

-- run `run` of a seed: the state of its generator is made of both numbers, and the run's number is its stream
abbrev pub words_of : ℕ → ℕ → Lcg
words_of seed run = started 64 multiplier_64 (with_number seed run) (increment_of 64 run)

-- the next word of a generator, and the generator after it
abbrev pub word_of : Lcg → ℕ
word_of g = (pcg32 g).0

abbrev pub after_word : Lcg → Lcg
after_word g = (pcg32 g).1

-- before the first step: a word is the base of the keys, and one draws the rate
abbrev pub opened : Strategy → Lcg → Choices
opened strategy g = record {
  strategy = strategy;
  rate = strategy.least_rate + word_of (after_word g) % 8;
  words = after_word (after_word g);
  keys = opened_keys strategy (word_of g);
}

-- ---- keys

-- the key of a step; polls are below all others if they come last
abbrev pub key_of : Ran → Strategy → RunKeys → Step → ℕ
key_of m strategy keys s =
    if strategy.polls_last && is_poll m s then key_at strategy keys (place_of s) else ABOVE_KEYS + key_at strategy keys (place_of s)

-- of the steps among which a word lets choose, this one has the greatest key
abbrev pub IsBest : Ran → Strategy → ℕ → RunKeys → Step → Type 0
IsBest m strategy word keys s = IsGreatest (key_of m strategy keys) (offers m word) s

-- the key of who would make the next step is lowered
abbrev pub lowered_by : Ran → Choices → Step → Choices
lowered_by m c s = record c { keys = with_lowered (place_of s) (length m.steps + 1) c.keys }

-- by these choices this step is made, and these are left: the greatest key is lowered first, or it isn't
pub record IsLowered (m : Ran) (strategy : Strategy) (word : ℕ) (c : Choices) (s : Step) (left : Choices) : Type 0 where
  pub top : Step
  pub was : IsBest m strategy word c.keys top
  pub leaves : left ≡ lowered_by m c top
  pub best : IsBest m strategy word left.keys s

pub record IsTop (m : Ran) (strategy : Strategy) (word : ℕ) (c : Choices) (s : Step) (left : Choices) : Type 0 where
  pub leaves : left ≡ c
  pub best : IsBest m strategy word c.keys s

abbrev pub IsMade : Bool → Ran → Strategy → ℕ → Choices → Step → Choices → Type 0
IsMade true m strategy word c s left = IsLowered m strategy word c s left
IsMade false m strategy word c s left = IsTop m strategy word c s left

-- the choices after their next word is taken
abbrev pub with_word : Choices → Choices
with_word c = record c { words = after_word c.words }

-- whether the next word lowers the greatest key, with a chance of 2^-rate
abbrev pub lowers : Choices → Bool
lowers c = nat_lt (word_of c.words) (2 ^ (32 - c.rate))

-- ---- a walk

-- a step that was found, if one was, and the words that are left
pub record Walked : Type 0 where
  pub step : Option Step
  pub words : Lcg

abbrev pub or_later : Option Step → Lcg → Walked → Walked
or_later (Some s) g later = record { step = Some s; words = g }
or_later None g later = later

-- each of the next n words draws an actor; the first that has a step makes the one that `word` picks
unfoldable pub walked : Ran → Strategy → ℕ → ℕ → Lcg → Walked
walked m strategy word zero g = record { step = None; words = g }
walked m strategy word (suc n) g =
    or_later (picked_of m (actor_drawn strategy (length m.setup.entries) (word_of g)) word) (after_word g) (walked m strategy word n (after_word g))

-- the next word is the base of all keys
abbrev pub with_new_keys : Choices → Choices
with_new_keys c = record c { words = after_word c.words; keys = with_base (word_of c.words) c.keys }

-- a step that was found is made; otherwise the one with the greatest key, where all are drawn anew
abbrev pub IsFound : Option Step → Ran → Strategy → ℕ → Choices → Step → Choices → Type 0
IsFound (Some t) m strategy word c s left = (s ≡ t) × (left ≡ c)
IsFound None m strategy word c s left = IsTop m strategy word (with_new_keys c) s left

abbrev pub with_words : Choices → Lcg → Choices
with_words c words = record c { words = words }

-- eight actors are drawn
abbrev pub IsWalked : Ran → Strategy → ℕ → Choices → Step → Choices → Type 0
IsWalked m strategy word c s left =
    IsFound (walked m strategy word 8 c.words).step m strategy word (with_words c (walked m strategy word 8 c.words).words) s left

-- ---- a choice

-- by its strategy a run walks, or goes by keys that stay
abbrev pub IsDrawnBy : Bool → Ran → Strategy → ℕ → Choices → Step → Choices → Type 0
IsDrawnBy true m strategy word c s left = IsWalked m strategy word c s left
IsDrawnBy false m strategy word c s left = IsMade (lowers c) m strategy word (with_word c) s left

-- a word picks among the steps of one actor, or of one queued command
abbrev pub IsDrawn : Ran → Strategy → Choices → Step → Choices → Type 0
IsDrawn m strategy c s left = IsDrawnBy strategy.walks m strategy (word_of c.words) (with_word c) s left

-- A processor goes on with local instructions, for which no word is drawn; otherwise the step is drawn.
abbrev pub IsNext : Option Step → Ran → Strategy → Choices → Step → Choices → Type 0
IsNext (Some on) m strategy c s left = (s ≡ on) × (left ≡ c)
IsNext None m strategy c s left = IsDrawn m strategy c s left

-- the strategy of the next choice
abbrev pub strategy_now : Ran → Choices → Strategy
strategy_now m c = strategy_at c.strategy (length m.steps) m.setup.budget

-- by these choices the run makes this step next, and these are left
abbrev pub IsChosen : Ran → Choices → Step → Choices → Type 0
IsChosen m c s left = IsNext (going_on m (strategy_now m c)) m (strategy_now m c) c s left
