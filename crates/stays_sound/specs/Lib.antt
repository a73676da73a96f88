-- What every step keeps: a box stays sound, its records obey the rules and fit into the tray (document 01, 'A box', 'Records').
pub mod Size
