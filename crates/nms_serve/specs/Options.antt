-- An option of the command line, as the parser has it.
use Rattle.std.specs.Prelude.{Some, length}
use Rattle.clap.specs.Words.{Rule, new_rule}
use Rattle.nms_serve.specs.declared.words.option_word.OptionWord.{OptionWord}

abbrev pub option_rule : OptionWord → Rule
option_rule option = record (new_rule option.name.now) {
  long = Some option.name.now;
  value_names = length option.values.now;
  action = option.action;
  required = option.required;
}
