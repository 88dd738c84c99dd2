-- The statements of specs/, proved. Asks: a request where none of its tests holds. Working: the requests of one node. Pairs: a ledger cut to its
-- first pairs. Halves: a pass over the nodes, of which Leaves, Reports and Pushes are four. Ends: all parts of the history, one after another.
-- Counts and Bound: how long it is. Earlier and Others: the rule that was strengthened.
pub mod Computed
pub mod Puts
pub mod Leads
pub mod Asks
pub mod Shapes
pub mod Counts
pub mod Brings
pub mod Working
pub mod Parents
pub mod Pairs
pub mod Halves
pub mod Leaves
pub mod Reports
pub mod Pushes
pub mod Ends
pub mod Bound
pub mod Earlier
pub mod Demands
pub mod Others
