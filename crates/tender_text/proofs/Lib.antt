mod Numbers
mod Tenders
