-- What the built types stand for in the grammar: `seen_x` is the part of the grammar that a built x is.
pub mod Chained
pub mod Declarations
pub mod Expressions
pub mod Statements
pub mod Texts
pub use Chained.{chained}
pub use Declarations.{seen_atom, seen_constant, seen_bounds, seen_item, link_items, seen_items, seen_literal}
pub use Declarations.{link_literals, seen_literals, seen_globals, link_lines, seen_lines}
pub use Declarations.{link_names, seen_names, seen_parameters, seen_local, link_locals, seen_locals, seen_gives}
pub use Declarations.{seen_main, seen_heading}
pub use Expressions.{seen_rel, seen_sign, seen_scale, no_factor, no_neg, no_expr, seen_expr, seen_next_boths, seen_both}
pub use Expressions.{seen_next_negs, seen_neg, seen_boxed_neg}
pub use Expressions.{seen_compared, seen_sum, seen_next_terms, seen_product, seen_next_factors, seen_factor}
pub use Expressions.{seen_boxed_factor, seen_index, seen_boxed_expr, seen_spot, link_ors, seen_ors}
pub use Expressions.{link_ands, seen_ands, link_terms, seen_terms, link_factors, seen_factors}
pub use Statements.{seen_argument, link_further, seen_further, seen_arguments, link_values, seen_values, seen_answer}
pub use Statements.{
  seen_direction,
  seen_step,
  seen_statement,
  seen_otherwise,
  seen_boxed_statement,
  seen_nexts,
  link_row,
}
pub use Statements.{seen_row}
pub use Texts.{seen_procedure, link_procedures, seen_procedures, seen_text}
