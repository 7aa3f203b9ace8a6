use Rattle.std.proofs.Common.{◌++◌, ap, ◌∙◌}
use Rattle.hunt_texts.specs.Jsons.{string_json}
use Rattle.hunt_texts.proofs.RowLemmas.{seven}
use Rattle.hunt_texts.proofs.rows.put_found_json.Goals as goal

pub returns : goal.returns
returns c =
    seven _ _ _ _ _ _ _ _ _ _ _ _ _ _ _ c.in_ok-extend_from_slice.ensures.items (c.in_ok-put_string_json.ensures ∙ ap (λ key. c.extend_from_slice.new.self.items ++ string_json key) c.key_word.ensures) c.in_ok-extend_from_slice-2.ensures.items c.in_ok-put_string_json-2.ensures
    c.in_ok-extend_from_slice-3.ensures.items c.in_ok-put_string_json-3.ensures c.in_ok-put_runs_json.ensures
