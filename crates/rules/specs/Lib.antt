-- The definitions of Tuffbasket, in the order of document 01: what a customer must believe.
-- They compute, and Sheets tries them on the day sheets P1 to P14.
pub mod Basics
pub mod Refusals
pub mod Tokens
pub mod Orders
pub mod Plans
pub mod Planning
pub mod Checking
pub mod PlanFiles
pub mod Listings
pub mod Sheets
